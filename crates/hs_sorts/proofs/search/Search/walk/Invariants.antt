-- the start is on the way, and what was come to stays so
use Rattle.std.proofs.Common.{◌+◌, ◌*◌, ℕ, length}
use Rattle.hs_sorts.specs.Search.{IsSearch, IsStarted, new_count}
use Rattle.hs_sorts.proofs.search.Search.walk.Given as goal

abbrev pub invariant-loop-at : goal.invariant-loop-at
invariant-loop-at l = record {
  search : IsSearch l.store l.self.marks.items l.self.path.items;
  started : IsStarted l.self.marks.items l.start;
  kept : (i : ℕ) → IsStarted l.fn.self.marks.items i → IsStarted l.self.marks.items i;
}

abbrev pub decreases-loop-at : goal.decreases-loop-at
decreases-loop-at l = 2 * new_count l.self.marks.items + length l.self.path.items
