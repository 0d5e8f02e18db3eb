-- A sorted scheme that was made of an unsorted one by lengthening its rules.
use Rattle.std.specs.Prelude.{◌≡◌, length}
use Rattle.hs_scheme.specs.sorting.Unsorted.{UnsortedData}
use Rattle.hs_scheme.specs.sorting.Sorting.{IsSorting}
use Rattle.hs_scheme.specs.sorting.Sorted.{SortedData, sorts_of}
use Rattle.hs_scheme.specs.sorting.Lengthening.{lengthening}

-- the sorts are a sorting of the unsorted scheme's rules, the rules are these rules lengthened, and the automaton is its own
pub record IsLengthened (u : UnsortedData) (s : SortedData) : Type 0 where
  pub sorting : IsSorting u.rules u.ranks (length u.rules) (sorts_of s.sorts s.scheme.ranks)
  pub rules : s.scheme.rules ≡ lengthening u.rules s.sorts
  pub automaton : s.automaton ≡ u.automaton
