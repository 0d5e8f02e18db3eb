use Rattle.std.proofs.Common.{ℕ, get_or}
use Rattle.std.proofs.lemmas.List.{get_or_default}
use Rattle.hs_scheme.proofs.Lists.{none_in}
use Rattle.hs_table.specs.Follows.{HasMove}
use Rattle.hs_strength.proofs.Rows.{each_more, each_all}
use Rattle.hs_certificate_checker.proofs.idle.moves_in_each.Goals as goal

pub loop-q-init : goal.loop-q-init
loop-q-init c = λ q m. absurd (none_in q m)

pub loop-q-preserved : goal.loop-q-preserved
loop-q-preserved c =
    let qs = c.args.states.now in
    let k = c.loop-q.q-index in
    let q : ℕ = get_or qs k 0 in
    each_more (λ (r : ℕ). HasMove c.args.problem.now.sorted.automaton.transitions c.args.terminal c.args.count r) qs k q c.loop-q-test.true (get_or_default qs k 0 q c.loop-q-test.true) c.loop-q.invariant
    (c.moves.ensures c.if-not-moves.false)

pub returns : goal.returns
returns c = λ _. each_all (λ (r : ℕ). HasMove c.args.problem.now.sorted.automaton.transitions c.args.terminal c.args.count r) c.args.states.now c.loop-q.q-index c.loop-q-test.false c.loop-q.invariant
