use Rattle.std.proofs.Common.{◌≡◌, false}
use Rattle.costs.proofs.turn.turns.Given as goal

abbrev pub invariant-loop : goal.invariant-loop
invariant-loop g l = (l.seat.turn ≡ l.turn) × (l.seat.known.holds ≡ false)
