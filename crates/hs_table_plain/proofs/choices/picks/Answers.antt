use Rattle.std.proofs.Common.{sym, ◌∙◌, ap}
use Rattle.std.specs.List.{flat_map}
use Rattle.std.proofs.lemmas.List.{drop_all}
use Rattle.hs_table.specs.Entries.{EntryData}
use Rattle.hs_table_plain.specs.Enumeration as plain
use Rattle.hs_table_plain.proofs.Loops.{picks_step}
use Rattle.hs_table_plain.proofs.choices.picks.Goals as goal

pub loop-ty-preserved : goal.loop-ty-preserved
loop-ty-preserved c =
    picks_step c.args.log.now c.args.arg c.args.set.now c.loop-ty.ty-index c.ty-item.result c.loop-ty.found.items c.in_ok-found.found.items c.loop-ty-test.true c.ty-item.is
    (c.in_ok-found.ensures ∙ ap (flat_map (λ (e : EntryData). flat_map (plain.extended c.args.arg c.ty-item.result e) c.args.log.now)) c.as_slice.ensures.value)
    ∙ c.loop-ty.invariant

pub returns : goal.returns
returns c =
    ap (λ s. plain.picks c.args.log.now c.args.arg s c.loop-ty.found.items) (sym (drop_all c.loop-ty.ty-index c.args.set.now c.loop-ty-test.false)) ∙ c.loop-ty.invariant
