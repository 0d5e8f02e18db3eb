-- all entries of the log are in shape
use Rattle.std.proofs.Common.{All}
use Rattle.hs_table.specs.Entries.{InShape}
use Rattle.hs_table_examples.proofs.comparing.all_agree.Given as goal

abbrev pub invariant-loop-step : goal.invariant-loop-step
invariant-loop-step l = All (InShape l.problem) l.replica.log
