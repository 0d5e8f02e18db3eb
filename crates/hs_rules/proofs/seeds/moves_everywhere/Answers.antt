use Rattle.std.proofs.Common.{sym, subst, ◌<◌, length, get_or, arith, inl, inr}
use Rattle.std.proofs.Math.Nat.{eq-or-lt_of_le}
use Rattle.std.proofs.lemmas.Option.{slice_get-get_or}
use Rattle.hs_scheme.proofs.Lists.{Contains-at}
use Rattle.hs_table.specs.Follows.{HasMove}
use Rattle.hs_rules.proofs.seeds.moves_everywhere.Goals as goal

pub moves_by-requires : goal.moves_by-requires
moves_by-requires c =
    let places = c.with_terminal-places.result.now in
    let lt : c.loop-q.q < length places = omega (arith, c.loop-q-test.true, c.if-places-states.false, c.states.ensures, c.states-q-end.ensures) in
    (c.with_terminal-places.ensures (get_or places c.loop-q.q 0)).0 (Contains-at places c.loop-q.q (get_or places c.loop-q.q 0) (slice_get-get_or places c.loop-q.q 0 lt))

pub loop-q-preserved : goal.loop-q-preserved
loop-q-preserved c = λ k lt. elim (eq-or-lt_of_le (omega (arith, lt))) [
  | inl same ↦ subst (λ n. HasMove c.args.automaton.now.transitions c.args.terminal c.args.count n) (sym same) (c.moves_by.ensures c.if-not-moves_by.false)
  | inr below ↦ c.loop-q.invariant k below
]
