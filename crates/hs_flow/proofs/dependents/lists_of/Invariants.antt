-- each list has the dependents among the points so far
use Rattle.std.proofs.Common.{◌≡◌, ◌<◌, ◌↔◌, ℕ, Contains, length}
use Rattle.std.specs.List.Sorted.{IsStrictlyIncreasing}
use Rattle.hs_scheme.specs.flow.Dependents.{IsDependent}
use Rattle.hs_flow.specs.Lists.{list_of}
use Rattle.hs_flow.proofs.dependents.lists_of.Given as goal

abbrev pub invariant-loop-point : goal.invariant-loop-point
invariant-loop-point l = record {
  long : length l.lists ≡ length l.points.points;
  exact : (p d : ℕ) → Contains (list_of l.lists p) d ↔ ((d < l.point) × IsDependent l.points l.flow.pairs p d);
  ascending : (p : ℕ) → IsStrictlyIncreasing (list_of l.lists p);
}
