use Rattle.std.proofs.Common.{◌≡◌, refl, sym, ◌∙◌, ap, subst, ℕ, ◌<◌, length, []}
use Rattle.hs_scheme.specs.declared.term.Head.{Head}
use Rattle.hs_scheme.specs.acceptance.Automaton.{AutomatonData}
use Rattle.hs_scheme.specs.sorting.Sorted.{SortedData, IsSorted}
use Rattle.hs_scheme.specs.Problem.{ProblemData}
use Rattle.hs_table.specs.Follows.{HasMove}
use Rattle.hs_rules.specs.Heads.{AreHeads, AsksNothing}
use Rattle.hs_rules.proofs.RankLemmas.{ranks_agree}
use Rattle.hs_rules.proofs.SeedLemmas.{bodies_nothing, params_nothing, moving_nothing}
use Rattle.hs_rules.proofs.seeds.starts_nothing.Goals as goal

pub returns-in-Tm : goal.returns-in-Tm
returns-in-Tm c = λ rule ids t.
    let p = c.args.problem.now in
    let args = c.args.args.now in
    let a = c.in-Tm.terminal in
    let sorted_is : c.problem.inside.sorted ≡ p.sorted = ap (λ (q : ProblemData). q.sorted) c.problem.view_is in
    let m_is : c.sorted.inside.automaton ≡ p.sorted.automaton = ap (λ (q : SortedData). q.automaton) (c.sorted.view_is ∙ sorted_is) in
    let is_sorted : IsSorted p.sorted = subst (λ (q : SortedData). IsSorted q) (c.sorted.view_is ∙ sorted_is) c.sorted.invariant in
    let moves = subst (λ (m : AutomatonData). (q : ℕ) → q < m.states → HasMove m.transitions a (length args) q) m_is (c.moves_everywhere.ensures t) in
    subst (λ (h : Head). AreHeads p [] (record { rule = rule; head = h; args = args }) ids AsksNothing []) (sym c.in-Tm.is)
    (moving_nothing p [] rule args ids [] a refl moves (λ q to moved. ranks_agree p.sorted is_sorted q a to moved))

pub returns-in-Nt : goal.returns-in-Nt
returns-in-Nt c = λ rule ids t.
    subst (λ (h : Head). AreHeads c.args.problem.now [] (record { rule = rule; head = h; args = c.args.args.now }) ids AsksNothing []) (sym c.in-Nt.is)
    (bodies_nothing c.args.problem.now [] rule c.args.args.now ids [] c.in-Nt.field-0 refl)

pub returns-in-Var : goal.returns-in-Var
returns-in-Var c = λ rule ids t.
    subst (λ (h : Head). AreHeads c.args.problem.now [] (record { rule = rule; head = h; args = c.args.args.now }) ids AsksNothing []) (sym c.in-Var.is)
    (params_nothing c.args.problem.now [] rule c.args.args.now ids [] c.in-Var.field-0 refl)
