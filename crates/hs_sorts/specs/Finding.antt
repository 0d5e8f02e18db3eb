-- Measured nodes whose sorts are the sortings of a scheme's first rules.
use Rattle.std.specs.Prelude.{◌≡◌, ◌<◌, ◌≤◌, ℕ, ◌+◌, List, length, slice_get, Option, Some, None, Bool, true, false}
use Rattle.hs_scheme.specs.declared.term.Rule.{Rule}
use Rattle.hs_scheme.specs.sorting.Sorting.{SortTree, arguments, HasSorting}
use Rattle.hs_sorts.specs.declared.finding.MeasuredNodes.{MeasuredNodes}
use Rattle.hs_sorts.specs.declared.store.Node.{Node}
use Rattle.hs_sorts.specs.declared.measures.Measure.{Measure}
use Rattle.hs_sorts.specs.Nodes.{Valuation, IsStore, IsFlat}
use Rattle.hs_sorts.specs.Measures.{IsReading}
use Rattle.hs_sorts.specs.Search.{Measuring}
use Rattle.hs_sorts.specs.Solving.{Solves}
use Rattle.hs_sorts.specs.Inference.{IsTooLong}

pub record FindsSorting (rules : List Rule) (ranks : List (Option ℕ)) (k : ℕ) (found : MeasuredNodes) : Type 0 where
  pub store : IsStore found.store
  pub flat : IsFlat found.store
  pub solves : Solves rules ranks k found.store
  pub measuring : Measuring found.store found.measures

-- they are found exactly where the first k rules have a sorting
abbrev pub IsFinding : List Rule → List (Option ℕ) → ℕ → Option MeasuredNodes → Type 0
IsFinding rules ranks k (Some found) = FindsSorting rules ranks k found
IsFinding rules ranks k None = HasSorting rules ranks k → ⊥

-- the first of `count` measures from the one at `start` on of which Fails is true, where Holds is true of those before it
abbrev pub IsFirstMeasure : (Measure → Type 0) → (Measure → Type 0) → List Measure → ℕ → ℕ → Option ℕ → Type 0
IsFirstMeasure Fails Holds measures start count (Some i) =
    (i < count) × ((w : Measure) → slice_get measures (start + i) ≡ Some w → Fails w) × ((j : ℕ) (w : Measure) → j < i → slice_get measures (start + j) ≡ Some w → Holds w)
IsFirstMeasure Fails Holds measures start count None = (j : ℕ) (w : Measure) → j < count → slice_get measures (start + j) ≡ Some w → Holds w

-- the first whose sort has an argument other than o, and the first whose sort is larger than 1,000
abbrev pub IsFirstHigherOrder : List Measure → ℕ → ℕ → Option ℕ → Type 0
IsFirstHigherOrder = IsFirstMeasure (λ w. w.first_order ≡ false) (λ w. w.first_order ≡ true)

abbrev pub IsFirstLarge : List Measure → ℕ → ℕ → Option ℕ → Type 0
IsFirstLarge = IsFirstMeasure (λ w. 1000 < w.size) (λ w. w.size ≤ 1000)

-- whether a rule is too long, where its nonterminal's sort has so many arguments
abbrev pub TellsLong : Rule → ℕ → Bool → Type 0
TellsLong rule arity true = (k : SortTree) → arity ≡ length (arguments k) → IsTooLong rule k
TellsLong rule arity false = (k : SortTree) → arity ≡ length (arguments k) → IsTooLong rule k → ⊥

-- the first rule that is too long, where its nonterminal's measure is that of its sort
abbrev pub IsFirstLong : List Rule → List Measure → Option ℕ → Type 0
IsFirstLong rules measures (Some i) =
    ((rule : Rule) (w : Measure) → slice_get rules i ≡ Some rule → slice_get measures i ≡ Some w → TellsLong rule w.arity true) × (i < length rules)
    × ((j : ℕ) (rule : Rule) (w : Measure) → j < i → slice_get rules j ≡ Some rule → slice_get measures j ≡ Some w → TellsLong rule w.arity false)
IsFirstLong rules measures None = (j : ℕ) (rule : Rule) (w : Measure) → slice_get rules j ≡ Some rule → slice_get measures j ≡ Some w → TellsLong rule w.arity false

-- the sorts that are read from the first nodes
pub record AreSorts (nodes : List Node) (count : ℕ) (sorts : List SortTree) : Type 0 where
  pub as_long : length sorts ≡ count
  pub reads : (v : Valuation) → IsReading v nodes → (i : ℕ) (k : SortTree) → slice_get sorts i ≡ Some k → k ≡ v i

-- the numbers of arguments from the one at `start` on
pub record AreArities (measures : List Measure) (start count : ℕ) (arities : List ℕ) : Type 0 where
  pub as_long : length arities ≡ count
  pub at : (a n : ℕ) (w : Measure) → slice_get arities a ≡ Some n → slice_get measures (start + a) ≡ Some w → n ≡ w.arity
