-- The least sorting as the sorts of the nonterminals and the ranks of the terminals.
use Rattle.std.specs.Prelude.{◌≡◌, ℕ, List, length, Option, slice_get, Some}
use Rattle.hs_scheme.specs.declared.term.Rule.{Rule}
use Rattle.hs_scheme.specs.sorting.Sorting.{SortTree, IsSorting, IsLeastSorting}
use Rattle.hs_scheme.specs.sorting.Sorted.{sorts_of, known}
use Rattle.hs_sorts.specs.Inference.{AreSmall, NoneTooLong}

pub record AreLeastSorts (rules : List Rule) (ranks : List (Option ℕ)) (sorts : List SortTree) (arities : List ℕ) : Type 0 where
  pub each_rule : length sorts ≡ length rules
  pub each_terminal : length arities ≡ length ranks
  pub agrees : (a n : ℕ) → slice_get ranks a ≡ Some (Some n) → slice_get arities a ≡ Some n
  pub sorting : IsSorting rules (known arities) (length rules) (sorts_of sorts arities)
  pub least : IsLeastSorting rules ranks (sorts_of sorts arities)
  pub small : AreSmall rules (sorts_of sorts arities)
  pub none_too_long : NoneTooLong rules (sorts_of sorts arities)
