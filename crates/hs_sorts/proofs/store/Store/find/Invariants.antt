-- the store is the same, and the node has the sort of the one that is reached
use Rattle.std.proofs.Common.{◌≡◌, ◌<◌, length}
use Rattle.hs_sorts.specs.Nodes.{Valuation, IsValuationOf, IsSameStore}
use Rattle.hs_sorts.proofs.store.Store.find.Given as goal

abbrev pub invariant-loop-shape : goal.invariant-loop-shape
invariant-loop-shape l = record {
  same : IsSameStore l.initial.self l.self;
  within : l.at < length l.self;
  equal : (v : Valuation) → IsValuationOf v l.initial.self → v l.node ≡ v l.at;
}

abbrev pub decreases-loop-shape : goal.decreases-loop-shape
decreases-loop-shape l = l.at
