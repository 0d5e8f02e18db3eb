-- all entries of the log are in shape, and none went
use Rattle.std.proofs.Common.{◌≤◌, All, length}
use Rattle.hs_table.specs.Entries.{InShape}
use Rattle.costs.proofs.forming.add_place.Given as goal

abbrev pub invariant-loop-point : goal.invariant-loop-point
invariant-loop-point l = record {
  shape : All (InShape l.problem) l.replica.log;
  longer : length l.fn.replica.log ≤ length l.replica.log;
}
