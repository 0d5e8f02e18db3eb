-- the naming goes on from the continuation as long as the path that the log names; a move that is no step leads to a smaller number
use Rattle.std.proofs.Common.{◌+◌, ◌-◌, ◌*◌, ◌≤◌}
use Rattle.hs_core.specs.Core.{log_of, state_of}
use Rattle.hs_path.specs.Walking.{IsWalking}
use Rattle.hs_path.proofs.walking.walk_from.Given as goal

abbrev pub invariant-loop-trail : goal.invariant-loop-trail
invariant-loop-trail l = record {
  few : l.used ≤ l.steps;
  walking : IsWalking l.problem (log_of l.core) (state_of l.core).supports l.store l.stack.items l.continuation l.trail.items l.used;
}

abbrev pub decreases-loop-trail : goal.decreases-loop-trail
decreases-loop-trail l = (l.steps - l.used) * 4294967296 + l.continuation.number
