use Rattle.std.proofs.Common.{◌≡◌, sym, ◌∙◌, ap, subst, ◌-◌, List, length, take, drop, arith, length-drop, IfOk}
use Rattle.std.proofs.lemmas.List.{take_all}
use Rattle.hs_table.specs.Entries.{EntryData}
use Rattle.hs_table.specs.TypeView.{type_of}
use Rattle.hs_table_plain.specs.Enumeration as plain
use Rattle.hs_table_plain.proofs.Loops.{through_step}
use Rattle.hs_table_plain.proofs.choices.+through.Goals as goal

pub returns-in_ok-chosen-in-Arrow : goal.returns-in_ok-chosen-in-Arrow
returns-in_ok-chosen-in-Arrow t c =
    let is = sym c.ty.view_is ∙ ap type_of c.in-Arrow.is in
    let chosen = c.in_ok-chosen-in-Arrow.ensures ∙ ap (λ s. plain.picks c.args.log.now c.in-Some.arg.now s c.args.entries.items) c.as_slice-in-Arrow.ensures.value in
    let step = through_step c.args.log.now c.args.args.now c.in-Some.arg.now c.in-Arrow.set.items c.in-Arrow.rest.value c.args.ty.now c.args.entries.items c.in_ok-chosen-in-Arrow.chosen.items (sym c.in-Some.ensures.value) is chosen in
    let front : take (length c.args.args.now - 1) (drop 1 c.args.args.now) ≡ drop 1 c.args.args.now = take_all _ (drop 1 c.args.args.now) (omega (arith, length-drop 1 c.args.args.now)) in
    subst (λ (z : List EntryData). IfOk c.through.result (λ out. out.items ≡ z)) ((λ i. plain.through c.args.log.now (front i) (c.deref.ensures i) c.in_ok-chosen-in-Arrow.chosen.items) ∙ step) c.through.ensures
