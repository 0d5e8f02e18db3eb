-- so it is at the points so far
use Rattle.std.proofs.Common.{◌≡◌}
use Rattle.hs_table_examples.specs.Following.{IsClosedAt}
use Rattle.hs_table_examples.proofs.Lists.{SoFar}
use Rattle.hs_table_examples.proofs.following.is_closed_at_all.Given as goal

abbrev pub invariant-loop-point : goal.invariant-loop-point
invariant-loop-point l = record {
  log : l.replica.log ≡ l.fn.replica.log;
  closed : SoFar (IsClosedAt l.problem l.fn.replica.log l.work) l.points l.point-index;
}
