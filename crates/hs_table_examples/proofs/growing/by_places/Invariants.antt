-- the log stays
use Rattle.std.proofs.Common.{◌≡◌}
use Rattle.hs_table_examples.proofs.growing.by_places.Given as goal

abbrev pub invariant-loop-place : goal.invariant-loop-place
invariant-loop-place l = l.replica.log ≡ l.fn.replica.log
