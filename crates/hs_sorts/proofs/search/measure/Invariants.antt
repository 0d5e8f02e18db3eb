-- the nodes so far were walked from
use Rattle.std.proofs.Common.{◌≡◌, ◌<◌, ℕ, []}
use Rattle.hs_sorts.specs.Search.{IsSearch, IsStarted}
use Rattle.hs_sorts.proofs.search.measure.Given as goal

abbrev pub invariant-loop-start : goal.invariant-loop-start
invariant-loop-start l = record {
  search : IsSearch l.store l.search.marks.items l.search.path.items;
  empty : l.search.path.items ≡ [];
  started : (i : ℕ) → i < l.start → IsStarted l.search.marks.items i;
}
