-- at the points so far nothing is left out
use Rattle.std.proofs.Common.{◌≡◌, ℕ, ◌<◌}
use Rattle.hs_workers_examples.specs.Working.{IsClosedAt}
use Rattle.hs_workers_examples.proofs.forming.is_closed.Given as goal

abbrev pub invariant-loop-point : goal.invariant-loop-point
invariant-loop-point g l = record {
  log : l.replica.log ≡ l.fn.replica.log;
  closed : (k : ℕ) → k < l.point → IsClosedAt l.problem l.fn.replica.log l.work k;
}
