-- Tables: lists of entries.
--     IsSupportedTable    no entry twice, and each follows from those before it
--     IsClosedTable       each entry that follows from it is there
--     IsLeastTable        both: the least table, unique up to order
--     Exceeds             the least table has more entries than that, or has no end
--     HasSupports         each entry of a log follows from those before it by its support
--     HasStart            the entry that rejects the start is there
--     IsInstanceCount     how often a type of a head has an entry for each type of its sets
use Rattle.std.specs.Prelude.{◌≡◌, ◌≢◌, ℕ, ◌<◌, List, [], length, take, slice_get, Some, Contains, AllPairs, ◌↔◌}
use Rattle.hs_scheme.specs.flow.Points.{PointData}
use Rattle.hs_scheme.specs.Problem.{ProblemData}
use Rattle.hs_table.specs.declared.support.HeadBy.{HeadBy}
use Rattle.hs_table.specs.Types.{TypeTree, state, arrows}
use Rattle.hs_table.specs.Entries.{Env, EntryData}
use Rattle.hs_table.specs.Follows.{IsHeadType, Chosen, Support, FollowsBy, Follows}

pub record IsSupportedTable (p : ProblemData) (T : List EntryData) : Type 0 where
  pub distinct : AllPairs (λ a b. a ≢ b) T
  pub follows : (i : ℕ) (e : EntryData) → slice_get T i ≡ Some e → Follows p (take i T) e

abbrev pub IsClosedTable : ProblemData → List EntryData → Type 0
IsClosedTable p T = (e : EntryData) → Follows p T e → Contains T e

pub record IsLeastTable (p : ProblemData) (T : List EntryData) : Type 0 where
  pub supported : IsSupportedTable p T
  pub closed : IsClosedTable p T

abbrev pub Exceeds : ProblemData → ℕ → Type 0
Exceeds p budget = (T : List EntryData) × (IsSupportedTable p T × (budget < length T))

pub record HasSupports (p : ProblemData) (T : List EntryData) (supports : List Support) : Type 0 where
  pub distinct : AllPairs (λ a b. a ≢ b) T
  pub each : length supports ≡ length T
  pub follows : (i : ℕ) (s : Support) (e : EntryData) → slice_get supports i ≡ Some s → slice_get T i ≡ Some e → FollowsBy p (take i T) s e

-- the entry at the body of the start, which has no parameters, with the initial state
pub record IsStart (p : ProblemData) (e : EntryData) : Type 0 where
  pub body : slice_get p.points.bodies 0 ≡ Some e.point
  pub env : e.env ≡ []
  pub initial : e.ty ≡ state 0

abbrev pub HasStart : ProblemData → List EntryData → Type 0
HasStart p T = (e : EntryData) × (IsStart p e × Contains T e)

-- at this point the head has this type, and each type of its sets has an entry at its argument
pub record IsInstance (p : ProblemData) (T : List EntryData) (point : ℕ) (ty : TypeTree) : Type 0 where
  pub of : PointData
  pub at : slice_get p.points.points point ≡ Some of
  pub by : HeadBy
  pub head : IsHeadType p T of.rule of.head by ty
  pub sets : Env
  pub rest : TypeTree
  pub is : ty ≡ arrows sets rest
  pub args : List (ℕ × ℕ)
  pub chosen : List EntryData
  pub are : Chosen p T 0 of.args sets args chosen

-- so many pairs of a point and a type are instances
pub record IsInstanceCount (p : ProblemData) (T : List EntryData) (n : ℕ) : Type 0 where
  pub all : List (ℕ × TypeTree)
  pub distinct : AllPairs (λ a b. a ≢ b) all
  pub exact : (point : ℕ) (ty : TypeTree) → Contains all (point, ty) ↔ IsInstance p T point ty
  pub count : length all ≡ n
