use Rattle.std.proofs.Common.{◌≡◌, false}
use Rattle.hs_workers_examples.proofs.recording.record_many.Given as goal

abbrev pub invariant-loop-step : goal.invariant-loop-step
invariant-loop-step g l = (l.seat.turn ≡ l.turn) × (l.seat.known.holds ≡ false)
