use Rattle.std.proofs.Common.{◌≡◌}
use Rattle.hs_turn.proofs.turn.Turn.enter.Given as goal

abbrev pub invariant-loop : goal.invariant-loop
invariant-loop g l = l.seat ≡ l.initial.seat
