use Rattle.std.proofs.Common.{◌≡◌, sym, ◌∙◌, ap, subst, List, [], ◌∷◌, ◌++◌}
use Rattle.std.specs.declared.cmp.Ordering.TheVariants.{Equal}
use Rattle.hs_table.specs.Types.{type_cmp}
use Rattle.hs_table.specs.Entries.{EntryData}
use Rattle.hs_table_plain.specs.Enumeration as plain
use Rattle.hs_table_plain.proofs.Loops.{is_equal, extended_one}
use Rattle.hs_table_plain.proofs.choices.extend_by.Goals as goal

pub returns-in_ok-push : goal.returns-in_ok-push
returns-in_ok-push c =
    let x : EntryData = record { point = c.candidate.inside.point; env = c.candidate.inside.env.items; ty = c.candidate.inside.ty } in
    let e = c.args.entry.now in
    let same : type_cmp x.ty c.args.ty.now ≡ Equal = sym c.compare.ensures ∙ is_equal c.compare.result c.if-eq.ensures in
    let one = extended_one c.args.arg c.args.ty.now e x c.if-candidate-arg.true same in
    let own = subst (λ (y : EntryData). (plain.joined e y ∷ []) ≡ plain.extended c.args.arg c.args.ty.now e y) c.candidate.view_is one in
    c.in_ok-push.ensures.items ∙ ap (λ (es : List EntryData). c.args.out.now.items ++ es) (ap (λ (y : EntryData). y ∷ []) c.in_ok-joined.ensures ∙ own)
