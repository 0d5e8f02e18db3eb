-- what the parameter's pairs so far lead to is held
use Rattle.std.proofs.Common.{take}
use Rattle.hs_flow_checker.specs.declared.passing.Base.{Base}
use Rattle.hs_flow_checker.specs.PassedOn.{HoldsBy}
use Rattle.hs_flow_checker.proofs.GapLemmas.{Leads}
use Rattle.hs_flow_checker.proofs.gaps.gap_through.Given as goal

abbrev pub invariant-loop-pair : goal.invariant-loop-pair
invariant-loop-pair l = (b : Base) → Leads (take l.pair-index l.pair-items) l.problem.flow.heads b → HoldsBy l.problem l.kind l.point l.args b
