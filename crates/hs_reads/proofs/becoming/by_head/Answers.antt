use Rattle.std.proofs.Common.{subst, List, get_or, Contains}
use Rattle.std.proofs.lemmas.List.Elements.{Contains-get_or}
use Rattle.hs_scheme.specs.declared.flow.FlowPair.{FlowPair}
use Rattle.hs_reads.specs.Becomings.{IsByHead}
use Rattle.hs_reads.proofs.GrowLemmas.{read_own}
use Rattle.hs_reads.proofs.ListingLemmas.{by_head_more, by_head_all}
use Rattle.hs_reads.proofs.becoming.by_head.Goals as goal

pub loop-pair-preserved : goal.loop-pair-preserved
loop-pair-preserved c =
    by_head_more c.args.problem.now c.flow_pairs-pair-items.result.now c.loop-pair.pair-index (get_or c.flow_pairs-pair-items.result.now c.loop-pair.pair-index (record { rule = 0; param = 0; point = 0 })) c.loop-pair.lists c.add_by_head.new.lists c.loop-pair-test.true (read_own c.flow_pairs-pair-items.result.now c.loop-pair.pair-index (record { rule = 0; param = 0; point = 0 }) c.loop-pair-test.true) c.loop-pair.invariant
    c.in_ok-add_by_head.ensures.len c.in_ok-add_by_head.ensures.kept c.in_ok-add_by_head.ensures.there c.in_ok-add_by_head.ensures.only

pub returns : goal.returns
returns c =
    subst (λ (fs : List FlowPair). IsByHead c.args.problem.now fs c.loop-pair.lists) c.flow_pairs-pair-items.ensures
    (by_head_all c.args.problem.now c.flow_pairs-pair-items.result.now c.loop-pair.pair-index c.loop-pair.lists c.loop-pair-test.false c.loop-pair.invariant)

pub add_by_head-requires-clause-flows : goal.add_by_head-requires-clause-flows
add_by_head-requires-clause-flows c =
    let items = c.flow_pairs-pair-items.result.now in
    let none : FlowPair = record { rule = 0; param = 0; point = 0 } in
    subst (λ (fs : List FlowPair). Contains fs (get_or items c.loop-pair.pair-index none)) c.flow_pairs-pair-items.ensures (Contains-get_or items c.loop-pair.pair-index none c.loop-pair-test.true)
