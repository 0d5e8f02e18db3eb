-- What saturation works on, as plain data, and what holds of it.
use Rattle.std.specs.Prelude.{◌≡◌, refl, ℕ, ◌<◌, List, All, length}
use Rattle.std.specs.Coded.{Coded, code_by, coded×}
use Rattle.hs_scheme.specs.declared.term.Rule.{Rule}
use Rattle.hs_scheme.specs.declared.flow.FlowPair.{FlowPair}
use Rattle.hs_scheme.specs.declared.flow.HeadPair.{HeadPair}
use Rattle.hs_scheme.specs.sorting.Sorted.{SortedData, coded_sorted}
use Rattle.hs_scheme.specs.flow.Points.{PointsData, coded_points, points_of}
use Rattle.hs_scheme.specs.flow.Flow.{FlowData, coded_flow, HasParameter}

pub record ProblemData : Type 0 where
  pub sorted : SortedData
  pub points : PointsData
  pub flow : FlowData

abbrev pub coded_problem : Coded ProblemData
coded_problem =
    code_by (SortedData × (PointsData × FlowData)) (coded× coded_sorted (coded× coded_points coded_flow)) (λ p. (p.sorted, (p.points, p.flow)))
    (λ p. record { sorted = p.0; points = p.1.0; flow = p.1.1 }) (λ _. refl)

-- the pair names a point and a parameter; with its number of arguments given there are still some missing
pub record FlowWithin (rules : List Rule) (points : ℕ) (f : FlowPair) : Type 0 where
  pub parameter : HasParameter rules f.rule f.param
  pub point : f.point < points

pub record HeadWithin (rules : List Rule) (points : ℕ) (h : HeadPair) : Type 0 where
  pub point : h.point < points
  pub missing : HasParameter rules h.rule h.given

-- the points are those of the scheme, and the flow names points, rules and parameters in range
pub record IsProblem (p : ProblemData) : Type 0 where
  pub points : p.points ≡ points_of p.sorted.scheme.rules
  pub flows : All (FlowWithin p.sorted.scheme.rules (length p.points.points)) p.flow.pairs
  pub heads : All (HeadWithin p.sorted.scheme.rules (length p.points.points)) p.flow.heads
