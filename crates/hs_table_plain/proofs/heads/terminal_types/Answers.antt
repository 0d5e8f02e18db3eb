use Rattle.std.proofs.Common.{◌≡◌, sym, ◌∙◌, ap, ◌++◌, add-one, arith}
use Rattle.hs_scheme.specs.acceptance.Automaton.{next}
use Rattle.hs_scheme.specs.Problem.{ProblemData}
use Rattle.hs_table_plain.specs.Enumeration as plain
use Rattle.hs_table_plain.proofs.heads.terminal_types.Goals as goal

pub loop-q-preserved : goal.loop-q-preserved
loop-q-preserved c =
    let p = c.args.problem.now in
    let a = c.args.terminal in
    let q = c.loop-q.q in
    let here = plain.types_in p a q (next p.sorted.automaton.transitions q a) in
    c.in_ok-types_in.ensures ∙ (ap (λ ts. ts ++ here) c.loop-q.invariant ∙ ap (plain.terminal_types p a) (sym (add-one q)))

pub returns : goal.returns
returns c =
    let p = c.args.problem.now in
    let states : c.states-q-end.result ≡ p.sorted.automaton.states =
    c.states-q-end.ensures ∙ ((λ i. (c.problem-inside.view_is i).sorted.automaton.states) ∙ ap (λ (q : ProblemData). q.sorted.automaton.states) c.problem.view_is) in
    let all : c.loop-q.q ≡ p.sorted.automaton.states = omega (arith, c.loop-q-test.false, c.loop-q.auto.q-end, states) in
    c.loop-q.invariant ∙ ap (plain.terminal_types p c.args.terminal) all
