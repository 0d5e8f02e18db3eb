-- all entries of the log are in shape
use Rattle.std.proofs.Common.{All}
use Rattle.hs_table.specs.Entries.{InShape}
use Rattle.hs_table_examples.proofs.growing.grow.Given as goal

abbrev pub invariant-loop-point : goal.invariant-loop-point
invariant-loop-point l = All (InShape l.problem) l.replica.log
