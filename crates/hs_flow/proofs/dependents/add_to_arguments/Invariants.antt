-- the point is in the lists of the arguments so far
use Rattle.std.proofs.Common.{Contains, take}
use Rattle.hs_flow.specs.Dependents.{AddsPoint}
use Rattle.hs_flow.proofs.dependents.add_to_arguments.Given as goal

abbrev pub invariant-loop-arg : goal.invariant-loop-arg
invariant-loop-arg l = AddsPoint (Contains (take l.arg-index l.args)) l.point l.initial.lists l.lists
