-- those that were taken were kept
use Rattle.std.proofs.Common.{length}
use Rattle.hs_rank.proofs.Keeping.{HasAdded}
use Rattle.hs_rank.proofs.gathering.keep_all.Given as goal

abbrev pub invariant-loop-deduced : goal.invariant-loop-deduced
invariant-loop-deduced l = HasAdded l.replica.ids l.replica.log l.fn.found.items l.left.items l.fn.fresh.list.items l.fresh.list.items

abbrev pub decreases-loop-deduced : goal.decreases-loop-deduced
decreases-loop-deduced l = length l.left.items
