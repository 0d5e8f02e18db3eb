-- all entries of the log are in shape
use Rattle.std.proofs.Common.{◌≡◌, ◌≤◌, All, length}
use Rattle.hs_table.specs.Entries.{InShape}
use Rattle.costs.proofs.forming.add_new.Given as goal

abbrev pub invariant-loop-deduced : goal.invariant-loop-deduced
invariant-loop-deduced l = record {
  shape : All (InShape l.problem) l.replica.log;
  ids : l.replica.ids ≡ l.fn.replica.ids;
  longer : length l.fn.replica.log ≤ length l.replica.log;
}
