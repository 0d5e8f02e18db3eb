use Rattle.std.proofs.Common.{◌∙◌, ap, ◌++◌}
use Rattle.std.specs.List.{flat_map}
use Rattle.std.proofs.lemmas.List.{take_all}
use Rattle.hs_table.specs.Entries.{EntryData}
use Rattle.hs_table_plain.specs.Enumeration as plain
use Rattle.hs_table_plain.proofs.Members.{flat_map_more}
use Rattle.hs_table_plain.proofs.choices.extended.Goals as goal

pub loop-entry-preserved : goal.loop-entry-preserved
loop-entry-preserved c =
    let f = λ (e : EntryData). flat_map (plain.extended c.args.arg c.args.ty.now e) c.args.log.now in
    let x = c.entry-item.result in
    let more = flat_map_more f c.args.entries.now c.loop-entry.entry-index x c.loop-entry-test.true c.entry-item.is in
    c.in_ok-extend.ensures ∙ (ap (λ es. es ++ f x) c.loop-entry.invariant ∙ more)

pub returns : goal.returns
returns c =
    let f = λ (e : EntryData). flat_map (plain.extended c.args.arg c.args.ty.now e) c.args.log.now in
    c.loop-entry.invariant ∙ ap (flat_map f) (take_all c.loop-entry.entry-index c.args.entries.now c.loop-entry-test.false)
