use Rattle.std.proofs.Common.{◌∙◌, ap, ◌++◌}
use Rattle.std.specs.List.{flat_map}
use Rattle.std.proofs.lemmas.List.{take_all}
use Rattle.hs_table_plain.specs.Enumeration as plain
use Rattle.hs_table_plain.proofs.Members.{flat_map_more}
use Rattle.hs_table_plain.proofs.heads.parameter_types.Goals as goal

pub loop-entry-preserved : goal.loop-entry-preserved
loop-entry-preserved c =
    let f = plain.flow_type c.args.problem.now.flow.pairs c.args.parameter.0 c.args.parameter.1 in
    let more = flat_map_more f c.args.log.now c.loop-entry.entry-index c.entry-item.result c.loop-entry-test.true c.entry-item.is in
    c.in_ok-add_flow_type.ensures ∙ (ap (λ ts. ts ++ f c.entry-item.result) c.loop-entry.invariant ∙ more)

pub returns : goal.returns
returns c =
    let f = plain.flow_type c.args.problem.now.flow.pairs c.args.parameter.0 c.args.parameter.1 in
    c.loop-entry.invariant ∙ ap (flat_map f) (take_all c.loop-entry.entry-index c.args.log.now c.loop-entry-test.false)
