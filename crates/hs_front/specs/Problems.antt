-- The problem of a scheme, and what its analyses may come to in place of one.
--     IsSortedFormOf    a scheme that is lengthened to its least sorting
--     IsSortedFile      the bytes are a file of a scheme with this sorted form
--     OfSortedFile      they are, and this sorted form has a property
--     IsProblemOf       the problem of a sorted scheme: its points and its flow, both within their limits
--     HasManyPoints     it has more than 500,000 points
--     HasMuchFlow       it has not, but more than 4,000,000 pairs of flow
--     IsPastLimits      why it has no problem
use Rattle.std.specs.Prelude.{◌≡◌, ℕ, ◌+◌, ◌≤◌, ◌<◌, List, length}
use Rattle.hs_scheme.specs.declared.flow.Pair.{Pair}
use Rattle.hs_scheme.specs.flow.Points.{points_of}
use Rattle.hs_scheme.specs.flow.Flow.{IsSupported, IsFlow, IsFlowTable}
use Rattle.hs_scheme.specs.sorting.Unsorted.{UnsortedData, IsUnsorted}
use Rattle.hs_scheme.specs.sorting.Sorted.{SortedData, IsSorted}
use Rattle.hs_scheme.specs.Problem.{ProblemData}
use Rattle.hs_sorts.specs.Inference.{IsInferred}
use Rattle.hs_front.specs.declared.refusal.Refusal.{Refusal}
use Rattle.hs_front.specs.declared.refusal.Refusal.TheVariants.{PointLimit, FlowLimit, OutOfMemory}
use Rattle.hs_front.specs.Files.{IsSchemeOf}

-- the sorted form of a scheme
pub record IsSortedFormOf (u : UnsortedData) (s : SortedData) : Type 0 where
  pub unsorted : IsUnsorted u
  pub is_sorted : IsSorted s
  pub inferred : IsInferred u s

pub record IsSortedFile (bytes : List ℕ) (s : SortedData) : Type 0 where
  pub scheme : UnsortedData
  pub of_bytes : IsSchemeOf bytes scheme
  pub form : IsSortedFormOf scheme s

pub record OfSortedFile (bytes : List ℕ) (P : SortedData → Type 0) : Type 0 where
  pub form : SortedData
  pub of : IsSortedFile bytes form
  pub holds : P form

pub record IsProblemOf (s : SortedData) (p : ProblemData) : Type 0 where
  pub same : p.sorted ≡ s
  pub points : p.points ≡ points_of s.scheme.rules
  pub few_points : length p.points.points ≤ 500000
  pub flow : IsFlow s.scheme.rules p.flow.pairs p.flow.heads
  pub ascending : IsFlowTable p.flow
  pub few_pairs : length p.flow.pairs + length p.flow.heads ≤ 4000000

abbrev pub HasManyPoints : SortedData → Type 0
HasManyPoints s = 500000 < length (points_of s.scheme.rules).points

pub record HasMuchFlow (s : SortedData) : Type 0 where
  pub few : length (points_of s.scheme.rules).points ≤ 500000
  pub order : List Pair
  pub supported : IsSupported s.scheme.rules order
  pub many : 4000000 < length order

abbrev pub IsPastLimits : SortedData → Refusal → Type 0
IsPastLimits s PointLimit = HasManyPoints s
IsPastLimits s FlowLimit = HasMuchFlow s
IsPastLimits s OutOfMemory = Unit {0}
IsPastLimits s refusal = ⊥
