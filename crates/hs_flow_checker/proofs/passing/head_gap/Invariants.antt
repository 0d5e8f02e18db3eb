-- what the bases so far demand is held
use Rattle.std.proofs.Common.{take, Contains}
use Rattle.hs_scheme.specs.declared.flow.HeadPair.{HeadPair}
use Rattle.hs_flow_checker.specs.PassedOn.{base_of, PassesHead}
use Rattle.hs_flow_checker.proofs.passing.head_gap.Given as goal

abbrev pub invariant-loop-head : goal.invariant-loop-head
invariant-loop-head l = (b : HeadPair) → Contains (take l.head-index l.rest) b → (h : HeadPair) → PassesHead l.problem l.point l.args (base_of b) h → Contains l.problem.flow.heads h
