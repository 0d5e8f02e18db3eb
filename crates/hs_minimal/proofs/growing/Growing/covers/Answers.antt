use Rattle.std.proofs.Common.{refl, ◌∙◌, ap, IsTrue, ◌↔◌}
use Rattle.std.proofs.lemmas.Result.{IfOk-weaker}
use Rattle.hs_types.specs.Interned.{InternerData, type_of_id, entry_of}
use Rattle.hs_weak.specs.Reads.{last_state}
use Rattle.hs_strength.specs.Remembered.{IsCovered}
use Rattle.hs_minimal.specs.Ends.{rows_ending}
use Rattle.hs_minimal.specs.Growing.{IsCoveredAt}
use Rattle.hs_minimal.proofs.GrowingLemmas.{ending_rows, alike_kept, alike_known, alike_covered}
use Rattle.hs_minimal.proofs.growing.Growing.covers.Goals as goal

pub is_covered-requires-clause-by : goal.is_covered-requires-clause-by
is_covered-requires-clause-by c =
    let I = c.args.types.now in
    ending_rows I c.args.self.now c.requires.growing c.args.row.now.point (last_state (type_of_id I c.args.row.now.ty)) c.alike-kept.result.now
    (c.alike-kept.ensures ∙ ap (λ (J : InternerData). rows_ending c.args.self.now.ends c.args.row.now.point (last_state (type_of_id J c.args.row.now.ty))) c.interner.ensures)

pub returns-then-has_row-clause-ok : goal.returns-then-has_row-clause-ok
returns-then-has_row-clause-ok c =
    let I = c.args.types.now in
    let g = c.args.self.now in
    let row = c.args.row.now in
    let kept_is = c.alike-kept.ensures ∙ ap (λ (J : InternerData). rows_ending g.ends row.point (last_state (type_of_id J row.ty))) c.interner.ensures in
    (λ _. alike_known I g c.requires.growing row ((alike_kept I g c.requires.growing row c.alike-kept.result.now kept_is).0 (c.has_row.ensures.0 c.if-has_row.true)), λ _. refl)

pub returns-clause-ok : goal.returns-clause-ok
returns-clause-ok c =
    let I = c.args.types.now in
    let g = c.args.self.now in
    let row = c.args.row.now in
    let kept_is = c.alike-kept.ensures ∙ ap (λ (J : InternerData). rows_ending g.ends row.point (last_state (type_of_id J row.ty))) c.interner.ensures in
    let k = alike_covered I g c.requires.growing row c.alike-kept.result.now kept_is in
    IfOk-weaker c.is_covered.result (λ b. IsTrue b ↔ IsCovered I row c.alike-kept.result.now) (λ b. IsTrue b ↔ IsCoveredAt I g (entry_of I row)) (λ b tells. (λ t. k.0 (tells.0 t), λ x. tells.1 (k.1 x))) c.is_covered.ensures.ok
