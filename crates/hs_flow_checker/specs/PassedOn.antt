-- What a point demands by what its head may become.
--     DemandsAt p point pair   the pair is demanded at this point
--     DemandNothing p marks    no pair is demanded at a point that is marked
-- Only private contracts cite the others.
use Rattle.std.specs.Prelude.{◌≡◌, ℕ, ◌+◌, Bool, true, List, slice_get, Some, Contains}
use Rattle.hs_scheme.specs.declared.flow.FlowPair.{FlowPair}
use Rattle.hs_scheme.specs.declared.flow.HeadPair.{HeadPair}
use Rattle.hs_scheme.specs.declared.flow.Pair.{Pair}
use Rattle.hs_scheme.specs.declared.flow.Pair.TheVariants.{OfFlow, OfHead}
use Rattle.hs_scheme.specs.flow.Points.{PointData}
use Rattle.hs_scheme.specs.flow.Flow.{HasParameter, IsBase, Passes}
use Rattle.hs_scheme.specs.Problem.{ProblemData}
use Rattle.hs_flow_checker.specs.declared.passing.Base.{Base}
use Rattle.hs_flow_checker.specs.declared.gaps.Kind.{Kind}
use Rattle.hs_flow_checker.specs.Gaps.{held, IsOfKind}

-- what the point of a head pair may become
abbrev pub base_of : HeadPair → Base
base_of h = record { rule = h.rule; given = h.given }

abbrev pub PassesBy : ProblemData → ℕ → List ℕ → Base → Pair → Type 0
PassesBy p point args b pair = Passes p.sorted.scheme.rules point args b.rule b.given pair

-- whatever the point is
abbrev pub PassesFlow : ProblemData → List ℕ → Base → FlowPair → Type 0
PassesFlow p args b f = PassesBy p 0 args b (OfFlow f)

-- the argument u of this number is one of the base's parameters
abbrev pub PassesArgument : ProblemData → Base → ℕ → ℕ → FlowPair → Type 0
PassesArgument p b number u f = (f ≡ record { rule = b.rule; param = b.given + number; point = u }) × HasParameter p.sorted.scheme.rules b.rule (b.given + number)

abbrev pub PassesHead : ProblemData → ℕ → List ℕ → Base → HeadPair → Type 0
PassesHead p point args b h = PassesBy p point args b (OfHead h)

-- what the base demands of the kind is held
abbrev pub HoldsBy : ProblemData → Kind → ℕ → List ℕ → Base → Type 0
HoldsBy p kind point args b = (pair : Pair) → IsOfKind kind pair → PassesBy p point args b pair → Contains (held p) pair

-- the base demands the pair, which is of the kind and isn't held
abbrev pub LacksBy : ProblemData → Kind → ℕ → List ℕ → Base → Pair → Type 0
LacksBy p kind point args b pair = IsOfKind kind pair × (PassesBy p point args b pair × (Contains (held p) pair → ⊥))

-- no pair of the kind is demanded of a point with these arguments
abbrev pub DemandsNone : ProblemData → Kind → List ℕ → Type 0
DemandsNone p kind args = (point : ℕ) (b : Base) (pair : Pair) → IsOfKind kind pair → PassesBy p point args b pair → ⊥

-- the pair is demanded at this point
pub record DemandsAt (p : ProblemData) (point : ℕ) (pair : Pair) : Type 0 where
  pub of : PointData
  pub by : Base
  pub at : slice_get p.points.points point ≡ Some of
  pub is_base : IsBase (held p) of.rule of.head by.rule by.given
  pub passes : PassesBy p point of.args by pair

abbrev pub DemandNothing : ProblemData → List Bool → Type 0
DemandNothing p marks = (point : ℕ) (pair : Pair) → slice_get marks point ≡ Some true → DemandsAt p point pair → ⊥

-- the base with n arguments more is among the head pairs
abbrev pub HasTaken : List HeadPair → HeadPair → ℕ → Type 0
HasTaken own b n = (h : HeadPair) × (Contains own h × ((h.rule ≡ b.rule) × (h.given ≡ b.given + n)))

-- the argument u of this number is the base's parameter
abbrev pub HasPassed : List FlowPair → HeadPair → ℕ → ℕ → Type 0
HasPassed pairs b number u = (f : FlowPair) × (Contains pairs f × ((f.rule ≡ b.rule) × ((f.param ≡ b.given + number) × (f.point ≡ u))))
