-- the entries so far
use Rattle.std.proofs.Common.{◌≡◌, take}
use Rattle.hs_table_examples.proofs.growing.trees.Given as goal

abbrev pub invariant-loop-place : goal.invariant-loop-place
invariant-loop-place l = l.log.items ≡ take l.place l.replica.log
