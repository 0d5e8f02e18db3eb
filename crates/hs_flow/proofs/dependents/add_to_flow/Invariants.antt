-- the point is in the lists of the points of the pairs so far
use Rattle.std.proofs.Common.{take}
use Rattle.hs_flow.specs.Dependents.{AddsPoint, HasPoint}
use Rattle.hs_flow.proofs.dependents.add_to_flow.Given as goal

abbrev pub invariant-loop-pair : goal.invariant-loop-pair
invariant-loop-pair l = AddsPoint (HasPoint (take l.pair-index l.flow)) l.point l.initial.lists l.lists
