use Rattle.std.proofs.Common.{◌≡◌, refl, sym, ◌∙◌, ap, subst, true, false, List, All, Contains}
use Rattle.std.proofs.lemmas.Result.{on_ok_weaker}
use Rattle.hs_types.specs.Interned.{InternerData, RowData, IsRow, type_of_id}
use Rattle.hs_weak.specs.Reads.{last_state}
use Rattle.hs_reads.specs.Lists.{list_of}
use Rattle.hs_minimal.specs.Ends.{rows_ending}
use Rattle.hs_minimal.specs.Growing.{GrowingData, IsGrowing, AreLeft, IsLeftBy}
use Rattle.hs_minimal.proofs.GrowingLemmas.{kept_rows, ending_rows, left_all, left_some}
use Rattle.hs_minimal.proofs.growing.Growing.let_covered_go.Goals as goal

pub covers_some-requires-clause-rows : goal.covers_some-requires-clause-rows
covers_some-requires-clause-rows c =
    let I = c.args.types.now in
    let g = c.args.self.now in
    let row = c.args.row.now in
    let kept_is : c.alike-kept.result.now ≡ rows_ending g.ends row.point (last_state (type_of_id I row.ty)) =
    c.alike-kept.ensures ∙ ap (λ (J : InternerData). rows_ending g.ends row.point (last_state (type_of_id J row.ty))) c.interner.ensures in
    ending_rows I g c.requires.growing row.point (last_state (type_of_id I row.ty)) c.alike-kept.result.now kept_is

pub returns-then-not-branch-clause-left : goal.returns-then-not-branch-clause-left
returns-then-not-branch-clause-left c =
    let I = c.args.types.now in
    let g = c.args.self.now in
    let row = c.args.row.now in
    let kept_is : c.alike-kept.result.now ≡ rows_ending g.ends row.point (last_state (type_of_id I row.ty)) =
    c.alike-kept.ensures ∙ ap (λ (J : InternerData). rows_ending g.ends row.point (last_state (type_of_id J row.ty))) c.interner.ensures in
    left_all I g c.requires.growing row (last_state (type_of_id I row.ty)) refl (λ r m covers.
    let f : false ≡ true = sym c.if-not-branch.true ∙ c.in_ok-covers_some.ensures.ok r (subst (λ (z : List RowData). Contains z r) (sym kept_is) m) covers in absurd (cc))

pub not_covered_by-requires-clause-rows : goal.not_covered_by-requires-clause-rows
not_covered_by-requires-clause-rows c =
    let I = c.args.types.now in
    let g = c.args.self.now in
    let row = c.args.row.now in
    let kept_is : c.alike-kept.result.now ≡ rows_ending g.ends row.point (last_state (type_of_id I row.ty)) =
    c.alike-kept.ensures ∙ ap (λ (J : InternerData). rows_ending g.ends row.point (last_state (type_of_id J row.ty))) c.interner.ensures in
    subst (λ (J : InternerData). All (IsRow J) c.alike-kept.result.now) (sym c.covers_some.ensures.same) (ending_rows I g c.requires.growing row.point (last_state (type_of_id I row.ty)) c.alike-kept.result.now kept_is)

pub not_covered_by-requires-2-clause-rows : goal.not_covered_by-requires-2-clause-rows
not_covered_by-requires-2-clause-rows c =
    let g = c.args.self.now in
    let row = c.args.row.now in
    subst (λ (J : InternerData). All (IsRow J) c.at.result.now) (sym (c.not_covered_by.ensures.same ∙ c.covers_some.ensures.same))
    (kept_rows c.args.types.now g c.requires.growing row.point c.at.result.now (c.at.ensures ∙ ap (λ (x : GrowingData). list_of x.rows row.point) c.self.view_is))

pub returns-clause-left : goal.returns-clause-left
returns-clause-left c =
    let I = c.args.types.now in
    let row = c.args.row.now in
    let g : GrowingData = record { problem = c.self.inside.problem.now; budget = c.self.inside.budget; history = c.self.inside.history.items; rows = c.self.inside.rows; ends = c.self.inside.ends } in
    let is : g ≡ c.args.self.now = c.self.view_is in
    let end = c.last_state-end.result in
    let same = c.not_covered_by-2.ensures.same ∙ (c.not_covered_by.ensures.same ∙ c.covers_some.ensures.same) in
    let end_is : end ≡ last_state (type_of_id I row.ty) = c.last_state-end.ensures ∙ ap (λ (J : InternerData). last_state (type_of_id J row.ty)) (c.interner-2.ensures ∙ same) in
    let kept_is : c.alike-kept.result.now ≡ rows_ending g.ends row.point end =
    c.alike-kept.ensures ∙ (ap (λ (J : InternerData). rows_ending c.args.self.now.ends row.point (last_state (type_of_id J row.ty))) c.interner.ensures
    ∙ (ap (λ (x : GrowingData). rows_ending x.ends row.point (last_state (type_of_id I row.ty))) (sym is) ∙ ap (λ q. rows_ending g.ends row.point q) (sym end_is))) in
    let of_ends : AreLeft I row (rows_ending g.ends row.point end) c.in_ok-ends.ends.items =
    subst (λ (z : List RowData). AreLeft I row z c.in_ok-ends.ends.items) kept_is (subst (λ (J : InternerData). AreLeft J row c.alike-kept.result.now c.in_ok-ends.ends.items) c.covers_some.ensures.same c.in_ok-ends.ensures.left) in
    let of_rows : AreLeft I row (list_of g.rows row.point) c.in_ok-rows.rows.items =
    subst (λ (z : List RowData). AreLeft I row z c.in_ok-rows.rows.items) c.at.ensures (subst (λ (J : InternerData). AreLeft J row c.at.result.now c.in_ok-rows.rows.items) (c.not_covered_by.ensures.same ∙ c.covers_some.ensures.same) c.in_ok-rows.ensures.left) in
    let new : GrowingData = record { problem = g.problem; budget = g.budget; history = g.history; rows = c.replace.new.self; ends = c.replace-2.new.self } in
    on_ok_weaker c.replace-2.result (λ each_end.
    subst (λ (x : GrowingData). IsLeftBy I row x new) is
    (left_some I g (subst (λ (x : GrowingData). IsGrowing I x) (sym is) c.requires.growing) row end end_is c.in_ok-rows.rows.items c.in_ok-ends.ends.items of_rows of_ends c.replace.new.self c.replace.ensures.len c.replace.ensures.each c.replace-2.new.self each_end
    new refl refl refl refl refl)) c.replace-2.ensures
