-- all entries of the log are in shape
use Rattle.std.proofs.Common.{All}
use Rattle.hs_table.specs.Entries.{InShape}
use Rattle.costs.proofs.forming.fill.Given as goal

abbrev pub invariant-loop-place : goal.invariant-loop-place
invariant-loop-place l = All (InShape l.problem) l.replica.log
