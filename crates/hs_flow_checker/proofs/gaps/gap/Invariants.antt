-- what the points so far demand is held
use Rattle.std.proofs.Common.{ℕ, ◌<◌, Contains}
use Rattle.hs_scheme.specs.declared.flow.Pair.{Pair}
use Rattle.hs_flow_checker.specs.Gaps.{held, IsOfKind}
use Rattle.hs_flow_checker.specs.PassedOn.{DemandsAt}
use Rattle.hs_flow_checker.proofs.gaps.gap.Given as goal

abbrev pub invariant-loop-point : goal.invariant-loop-point
invariant-loop-point l = (q : ℕ) → q < l.point → (pair : Pair) → IsOfKind l.kind pair → DemandsAt l.problem q pair → Contains (held l.problem) pair
