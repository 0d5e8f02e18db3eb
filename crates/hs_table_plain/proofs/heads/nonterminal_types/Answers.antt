use Rattle.std.proofs.Common.{◌∙◌, ap, ◌++◌}
use Rattle.std.specs.List.{flat_map}
use Rattle.std.proofs.lemmas.List.{take_all}
use Rattle.hs_table_plain.specs.Enumeration as plain
use Rattle.hs_table_plain.proofs.Members.{flat_map_more}
use Rattle.hs_table_plain.proofs.heads.nonterminal_types.Goals as goal

pub loop-entry-preserved : goal.loop-entry-preserved
loop-entry-preserved c =
    let f = plain.body_type c.args.body in
    let more = flat_map_more f c.args.log.now c.loop-entry.entry-index c.entry-item.result c.loop-entry-test.true c.entry-item.is in
    c.in_ok-add_body_type.ensures ∙ (ap (λ ts. ts ++ f c.entry-item.result) c.loop-entry.invariant ∙ more)

pub returns : goal.returns
returns c = c.loop-entry.invariant ∙ ap (flat_map (plain.body_type c.args.body)) (take_all c.loop-entry.entry-index c.args.log.now c.loop-entry-test.false)
