-- the store is the same, and the links so far are turned
use Rattle.hs_sorts.specs.Nodes.{IsSameStore, FlatBelow}
use Rattle.hs_sorts.proofs.store.Store.flatten.Given as goal

abbrev pub invariant-loop-node : goal.invariant-loop-node
invariant-loop-node l = record {
  same : IsSameStore l.initial.self l.self;
  flat : FlatBelow l.node l.self;
}
