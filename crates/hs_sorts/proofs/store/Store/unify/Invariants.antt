-- the two nodes are one in the old store exactly where the pairs are one in this one
use Rattle.std.proofs.Common.{◌+◌, ◌*◌, length}
use Rattle.hs_sorts.specs.Nodes.{root_count}
use Rattle.hs_sorts.proofs.Joining.{Pending}
use Rattle.hs_sorts.proofs.store.Store.unify.Given as goal

abbrev pub invariant-loop-a : goal.invariant-loop-a
invariant-loop-a l = Pending l.fn.self l.self l.fn.a l.fn.b l.pairs.items

abbrev pub decreases-loop-a : goal.decreases-loop-a
decreases-loop-a l = 2 * root_count l.self + length l.pairs.items
