-- the pairs are as they were
use Rattle.std.proofs.Common.{◌≡◌, ◌+◌, ◌-◌, length}
use Rattle.hs_reads.specs.ByPoint.{pairs_by_point}
use Rattle.hs_reads.proofs.found.reach.Given as goal

abbrev pub invariant-loop-alloc : goal.invariant-loop-alloc
invariant-loop-alloc l = pairs_by_point l.rows.items ≡ pairs_by_point l.initial.rows.items

abbrev pub decreases-loop-alloc : goal.decreases-loop-alloc
decreases-loop-alloc l = l.point + 1 - length l.rows.items
