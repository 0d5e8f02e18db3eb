use Rattle.std.proofs.Common.{get_or}
use Rattle.std.proofs.lemmas.List.{get_or_default}
use Rattle.hs_scheme.specs.declared.flow.FlowPair.{FlowPair}
use Rattle.hs_minimal.proofs.GatheringLemmas.{some_none, some_next, some_all}
use Rattle.hs_minimal.proofs.gathering.add_flow.Goals as goal

pub loop-pair-init : goal.loop-pair-init
loop-pair-init c = some_none c.args.growing.now (λ (f : FlowPair). f.point) c.args.pairs.now c.args.rows.now.items

pub loop-pair-preserved : goal.loop-pair-preserved
loop-pair-preserved c =
    let pairs = c.args.pairs.now in
    let k = c.loop-pair.pair-index in
    let none : FlowPair = record { rule = 0; param = 0; point = 0 } in
    let d = get_or pairs k none in
    some_next c.args.growing.now (λ (f : FlowPair). f.point) pairs c.args.rows.now.items k d c.loop-pair-test.true (get_or_default pairs k none d c.loop-pair-test.true) c.loop-pair.rows.items c.add_rows.new.rows.items c.loop-pair.invariant c.in_ok-add_rows.ensures

pub returns : goal.returns
returns c = some_all c.args.growing.now (λ (f : FlowPair). f.point) c.args.pairs.now c.args.rows.now.items c.loop-pair.pair-index c.loop-pair-test.false c.loop-pair.rows.items c.loop-pair.invariant
