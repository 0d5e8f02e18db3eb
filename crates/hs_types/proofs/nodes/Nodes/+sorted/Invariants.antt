use Rattle.std.proofs.Common.{length}
use Rattle.hs_types.proofs.nodes.Nodes.+sorted.Given as goal

abbrev pub decreases-sorted : goal.decreases-sorted
decreases-sorted l = length l.ids.now
