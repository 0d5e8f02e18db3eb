-- of the points so far there is no item
use Rattle.std.proofs.Common.{take, Contains}
use Rattle.hs_scheme.specs.declared.flow.FlowPair.{FlowPair}
use Rattle.hs_flow_checker.specs.Starts.{IsEmptyAt}
use Rattle.hs_flow_checker.proofs.starts.from_first_with.Given as goal

abbrev pub invariant-loop-place : goal.invariant-loop-place
invariant-loop-place l = (f : FlowPair) → Contains (take l.place l.row) f → IsEmptyAt l.starts f.point
