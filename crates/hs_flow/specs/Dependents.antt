-- Lists of points that grow by one point at a time.
--     HasDependents points flows lists     the list of each point has just its dependents, ascending
use Rattle.std.specs.Prelude.{◌≡◌, ℕ, ◌≤◌, List, length, All, Contains, ◌⊎◌, ◌↔◌}
use Rattle.std.specs.List.Sorted.{IsStrictlyIncreasing}
use Rattle.hs_scheme.specs.declared.flow.FlowPair.{FlowPair}
use Rattle.hs_scheme.specs.flow.Points.{PointsData}
use Rattle.hs_scheme.specs.flow.Dependents.{IsDependent}
pub use Rattle.hs_flow.specs.Lists.{list_of}

pub record HasDependents (points : PointsData) (flows : List FlowPair) (lists : List (List ℕ)) : Type 0 where
  pub each : length lists ≡ length points.points
  pub ascending : (p : ℕ) → IsStrictlyIncreasing (list_of lists p)
  pub exact : (p d : ℕ) → Contains (list_of lists p) d ↔ IsDependent points flows p d

-- an ascending list of numbers up to the point
pub record RisesToPoint (point : ℕ) (xs : List ℕ) : Type 0 where
  pub ascending : IsStrictlyIncreasing xs
  pub below : All (λ x. x ≤ point) xs

-- new has the point in each list of which S holds, and is otherwise as old
pub record AddsPoint (S : ℕ → Type 0) (point : ℕ) (old new : List (List ℕ)) : Type 0 where
  pub exact : (p d : ℕ) → Contains (list_of new p) d ↔ (Contains (list_of old p) d ⊎ ((d ≡ point) × S p))
  pub rises : (p : ℕ) → RisesToPoint point (list_of old p) → RisesToPoint point (list_of new p)
  pub len : length new ≡ length old

-- the point of one of the pairs
abbrev pub HasPoint : List FlowPair → ℕ → Type 0
HasPoint flows p = (f : FlowPair) × (Contains flows f × (f.point ≡ p))
