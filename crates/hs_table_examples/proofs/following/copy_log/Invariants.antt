-- the entries so far
use Rattle.std.proofs.Common.{◌≡◌, take}
use Rattle.hs_table_examples.proofs.following.copy_log.Given as goal

abbrev pub invariant-loop-place : goal.invariant-loop-place
invariant-loop-place l = l.to.log ≡ take l.place l.from.log
