-- the list is supported
use Rattle.std.proofs.Common.{◌-◌, ◌≤◌, length, All}
use Rattle.hs_table.specs.Entries.{InShape}
use Rattle.hs_table.specs.Tables.{IsSupportedTable}
use Rattle.hs_table_plain.proofs.table.least_table.Given as goal

abbrev pub decreases-loop-log : goal.decreases-loop-log
decreases-loop-log l = l.budget - length l.log.items

abbrev pub invariant-loop-log : goal.invariant-loop-log
invariant-loop-log l = record {
  within : length l.log.items ≤ l.budget;
  supported : IsSupportedTable l.problem l.log.items;
  shape : All (InShape l.problem) l.log.items;
}
