-- What is saturated for a scheme, and what its analyses may come to in place of that.
--     Asked           what is asked for beside the verdict, with what each pass makes of a scheme
--     form_asked      what is saturated of a sorted scheme: what the passes make of it, where it is to be simplified
--     IsSimplified    that it is this, and what it has kept
--     IsRemoved       how much weight the passes took off, where it was simplified
--     OfForm          what is saturated for a scheme has a property
--     HasProblem      that of a scheme before its sorts are known
--     IsReportedTable the list of entries that is reported where the start is rejected: the least table, or, where the first start entry
--                     is asked for, some supported list; it has the start entry
use Rattle.std.specs.Prelude.{◌≡◌, ℕ, ◌+◌, Bool, true, false, List, Option, Some, None, if◌then◌else◌}
use Rattle.hs_scheme.specs.sorting.Unsorted.{UnsortedData}
use Rattle.hs_scheme.specs.sorting.Sorted.{SortedData}
use Rattle.hs_scheme.specs.Problem.{ProblemData}
use Rattle.hs_scheme.specs.SameTree.{HaveSameTree}
use Rattle.hs_front.specs.Problems.{IsSortedFormOf, IsProblemOf}
use Rattle.hs_passes.specs.Weight.{weight}
use Rattle.hs_passes.specs.Passing.{KeepsRest, Image, composed}
use Rattle.hs_words.specs.declared.options.Settings.{Settings}
use Rattle.hs_table.specs.Entries.{EntryData}
use Rattle.hs_table.specs.Tables.{IsSupportedTable, IsLeastTable, HasStart}

pub record Asked : Type 0 where
  pub settings : Settings
  pub images : List Image

abbrev pub asked_of : Settings → List Image → Asked
asked_of settings images = record { settings = settings; images = images }

abbrev pub form_asked : Asked → SortedData → SortedData
form_asked asked s = if asked.settings.simplify then composed asked.images s else s

pub record IsSimplified (asked : Asked) (s t : SortedData) : Type 0 where
  pub made : t ≡ form_asked asked s
  pub rest : KeepsRest s t
  pub same_tree : HaveSameTree s.scheme.ranks s.scheme.rules t.scheme.rules
  -- where nothing is asked for it is as it was
  pub same : asked.settings.simplify ≡ false → t ≡ s

-- the weight of the one with what was taken off is the weight of the other
abbrev pub IsRemoved : Bool → SortedData → SortedData → Option ℕ → Type 0
IsRemoved false s t removed = removed ≡ None
IsRemoved true s t None = ⊥
IsRemoved true s t (Some removed) = weight t + removed ≡ weight s

-- what is saturated for the scheme has this property
pub record OfForm (asked : Asked) (u : UnsortedData) (P : SortedData → Type 0) : Type 0 where
  pub form : SortedData
  pub of : IsSortedFormOf u form
  pub holds : P (form_asked asked form)

-- of a scheme before its sorts are known
abbrev pub HasProblem : Asked → UnsortedData → ProblemData → Type 0
HasProblem asked u p = OfForm asked u (λ s. IsProblemOf s p)

abbrev pub IsReportedTable : Bool → ProblemData → List EntryData → Type 0
IsReportedTable false p T = IsLeastTable p T × HasStart p T
IsReportedTable true p T = IsSupportedTable p T × HasStart p T
