-- what the bases so far demand is held
use Rattle.std.proofs.Common.{take, Contains}
use Rattle.hs_scheme.specs.declared.flow.FlowPair.{FlowPair}
use Rattle.hs_scheme.specs.declared.flow.HeadPair.{HeadPair}
use Rattle.hs_flow_checker.specs.PassedOn.{base_of, PassesArgument}
use Rattle.hs_flow_checker.proofs.passing.flow_gap_by.Given as goal

abbrev pub invariant-loop-head : goal.invariant-loop-head
invariant-loop-head l = (h : HeadPair) → Contains (take l.head-index l.head-items) h → (f : FlowPair) → PassesArgument l.problem (base_of h) l.number l.arg f → Contains l.problem.flow.pairs f
