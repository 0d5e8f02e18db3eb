-- Conclusions as they are gathered.
--     ArePart        what is found so far: deduced, by supports that count, each row once
--     HasRowFor      the entry is found, by no greater support
--     IsOnlyPlaceOf  where a point is an argument of another
--     IsInRule       a point stands in the rule
use Rattle.std.specs.Prelude.{◌≡◌, ℕ, List, Contains, map, slice_get, Some}
use Rattle.hs_scheme.specs.flow.Points.{PointData, PointsData, IsArgument}
use Rattle.hs_scheme.specs.Problem.{ProblemData}
use Rattle.hs_table.specs.Entries.{EntryData}
use Rattle.hs_table.specs.Follows.{Support, FollowsBy, premises}
use Rattle.hs_types.specs.Interned.{InternerData, RowData, entry_of}
use Rattle.hs_rules.specs.Order.{IsNoGreater}
use Rattle.hs_rules.specs.Conclusions.{DeducedData, IsDeduced}
use Rattle.hs_rules.specs.Found.{RowsAre}

pub record ArePart (p : ProblemData) (ids : InternerData) (E : List EntryData) (point : ℕ) (Counts : Support → Type 0) (rows : List RowData) (found : List DeducedData) : Type 0 where
  pub once : RowsAre rows found
  pub each : (d : DeducedData) → Contains found d → IsDeduced p ids E d × Counts d.support × (d.row.point ≡ point)

pub record HasRowFor (ids : InternerData) (found : List DeducedData) (s : Support) (e : EntryData) : Type 0 where
  pub item : DeducedData
  pub there : Contains found item
  pub is : entry_of ids item.row ≡ e
  pub least : IsNoGreater (premises item.support) (premises s)

-- all that follows at the point by a support of this kind is found
abbrev pub HasAll : ProblemData → InternerData → List EntryData → ℕ → (Support → Type 0) → List DeducedData → Type 0
HasAll p ids E point Kind found = (s : Support) (e : EntryData) → e.point ≡ point → FollowsBy p E s e → Kind s → HasRowFor ids found s e

-- the place is one of the arguments'
abbrev pub UsesArgument : ℕ → Support → Type 0
UsesArgument place s = Contains (map (λ a. a.1) s.args) place

-- it is an argument of the point there, and of no other and nowhere else
pub record IsOnlyPlaceOf (points : PointsData) (point a place : ℕ) : Type 0 where
  pub there : IsArgument points point place a
  pub only : (q i : ℕ) → IsArgument points q i a → (q ≡ point) × (i ≡ place)

pub record IsInRule (points : PointsData) (a rule : ℕ) : Type 0 where
  pub of : PointData
  pub at : slice_get points.points a ≡ Some of
  pub in_rule : of.rule ≡ rule
