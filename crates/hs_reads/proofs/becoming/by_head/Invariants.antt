-- so far the pairs that were taken are in their lists
use Rattle.std.proofs.Common.{take}
use Rattle.hs_reads.specs.Becomings.{IsByHead}
use Rattle.hs_reads.proofs.becoming.by_head.Given as goal

abbrev pub invariant-loop-pair : goal.invariant-loop-pair
invariant-loop-pair l = IsByHead l.problem (take l.pair-index l.pair-items) l.lists
