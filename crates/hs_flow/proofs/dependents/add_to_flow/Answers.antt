use Rattle.std.proofs.Common.{◌≡◌, ◌+◌, get_or, take}
use Rattle.std.proofs.lemmas.List.{get_or_default}
use Rattle.hs_scheme.specs.declared.flow.FlowPair.{FlowPair}
use Rattle.hs_flow.specs.Dependents.{HasPoint}
use Rattle.hs_flow.proofs.DependentLemmas.{adds_then, flow_more}
use Rattle.hs_flow.proofs.dependents.add_to_flow.Goals as goal

pub loop-pair-preserved : goal.loop-pair-preserved
loop-pair-preserved c =
    let i = c.loop-pair.pair-index in let flows = c.args.flow.now in
    let none : FlowPair = record { rule = 0; param = 0; point = 0 } in
    let f : FlowPair = get_or flows i none in
    adds_then c.args.point (HasPoint (take i flows)) (λ p. p ≡ f.point) (HasPoint (take (i + 1) flows)) c.args.lists.now c.loop-pair.lists c.add_once.new.lists
    (flow_more flows i f c.loop-pair-test.true (get_or_default flows i none f c.loop-pair-test.true)) c.loop-pair.invariant c.in_ok-add_once.ensures
