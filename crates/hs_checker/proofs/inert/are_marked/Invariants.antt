-- the pairs so far
use Rattle.std.proofs.Common.{◌≡◌, true, take, slice_get, Some, Contains}
use Rattle.hs_scheme.specs.declared.flow.FlowPair.{FlowPair}
use Rattle.hs_checker.proofs.inert.are_marked.Given as goal

abbrev pub invariant-loop-pair : goal.invariant-loop-pair
invariant-loop-pair l = (f : FlowPair) → Contains (take l.pair-index l.row) f → slice_get l.marks f.point ≡ Some true
