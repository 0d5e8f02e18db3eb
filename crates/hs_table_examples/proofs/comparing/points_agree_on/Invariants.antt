-- the log stays
use Rattle.std.proofs.Common.{◌≡◌}
use Rattle.hs_table_examples.proofs.comparing.points_agree_on.Given as goal

abbrev pub invariant-loop-point : goal.invariant-loop-point
invariant-loop-point l = l.replica.log ≡ l.fn.replica.log
