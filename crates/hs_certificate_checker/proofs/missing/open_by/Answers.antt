use Rattle.std.proofs.Common.{◌≡◌, sym, ◌∙◌, ap, subst, ℕ, ◌<◌, List, length, map, All, MatchOption, slice_get, Some}
use Rattle.std.specs.List.Sorted.{IsNonDecreasingBy}
use Rattle.std.proofs.lemmas.Result.{IfOk-weaker}
use Rattle.hs_scheme.specs.flow.Points.{PointData, point_at}
use Rattle.hs_scheme.specs.Problem.{ProblemData}
use Rattle.hs_table.specs.Entries.{EntryData, params_of}
use Rattle.hs_weak.specs.Void.{VoidData}
use Rattle.hs_types.specs.Interned.{InternerData, type_of_id, env_of_id, entry_of, RowData, IsRow, Grows}
use Rattle.hs_types.proofs.Numbers.{type_within}
use Rattle.hs_choices.specs.Numbered.{AreOfLength, AreInUse, AreTableRows}
use Rattle.hs_choices.proofs.Growing.{in_of}
use Rattle.hs_heads.specs.HeadTypes.{HeadTypeData, sets_of, IsHeadTypeAt}
use Rattle.hs_void.specs.Voids.{BasisData, Fits}
use Rattle.hs_certificate_checker.specs.Settled.{StandFor, AreSettledBy, IsOpen}
use Rattle.hs_certificate_checker.proofs.SettledLemmas.{own_rows}
use Rattle.hs_certificate_checker.proofs.OpenLemmas.{told_so, LeastBy, least_so, own_point, of_arguments, open_of}
use Rattle.hs_certificate_checker.proofs.missing.open_by.Goals as goal

pub slots_for-requires-clause-table : goal.slots_for-requires-clause-table
slots_for-requires-clause-table c = subst (λ (rows : List RowData). All (IsRow c.args.types.now) rows) (sym c.requires.table) c.requires.fits.rows.in_use

pub slots_for-requires-clause-order : goal.slots_for-requires-clause-order
slots_for-requires-clause-order c = subst (λ (rows : List RowData). IsNonDecreasingBy (λ (r : RowData). r.point) rows) (sym c.requires.table) c.requires.fits.rows.order

pub slots_for-requires-clause-sets : goal.slots_for-requires-clause-sets
slots_for-requires-clause-sets c =
    let p = c.args.problem.now in
    let sets : c.as_slice.result.now ≡ c.args.head.now.sets = c.as_slice.ensures.value ∙ ap (λ (h : HeadTypeData). h.sets) c.head.view_is in
    subst (λ (ss : List ℕ). All (λ s. s < length c.args.types.now.sets) ss) (sym sets) (c.requires.head.row (point_at p.points c.args.point) (own_point p c.args.point c.requires.point)).sets

pub slots_for-requires-clause-long : goal.slots_for-requires-clause-long
slots_for-requires-clause-long c =
    let p = c.args.problem.now in
    let sets : c.as_slice.result.now ≡ c.args.head.now.sets = c.as_slice.ensures.value ∙ ap (λ (h : HeadTypeData). h.sets) c.head.view_is in
    ap (λ (ss : List ℕ). length ss) sets ∙ (c.requires.head.long (point_at p.points c.args.point) (own_point p c.args.point c.requires.point) ∙ ap (λ (us : List ℕ). length us) (sym c.args_at-args.ensures))

pub least_unions-requires-clause-fits : goal.least_unions-requires-clause-fits
least_unions-requires-clause-fits c = subst (λ (I : InternerData). Fits I c.args.voids.now) (sym c.slots_for.ensures.same) c.requires.fits

pub least_unions-requires-clause-first : goal.least_unions-requires-clause-first
least_unions-requires-clause-first c =
    let p = c.args.problem.now in
    let row = c.requires.head.row (point_at p.points c.args.point) (own_point p c.args.point c.requires.point) in
    subst (λ k. k < length c.slots_for.new.types.envs) (sym (ap (λ (h : HeadTypeData). h.first) c.head.view_is))
    (subst (λ (I : InternerData). c.args.head.now.first < length I.envs) (sym c.slots_for.ensures.same) row.env)

pub least_unions-requires-clause-slots : goal.least_unions-requires-clause-slots
least_unions-requires-clause-slots c =
    let p = c.args.problem.now in
    let I = c.args.types.now in
    let b = c.args.voids.now.basis in
    let h = c.args.head.now in
    let of = point_at p.points c.args.point in
    let at = own_point p c.args.point c.requires.point in
    let row = c.requires.head.row of at in
    let sets : c.as_slice.result.now ≡ h.sets = c.as_slice.ensures.value ∙ ap (λ (x : HeadTypeData). x.sets) c.head.view_is in
    let are = of_arguments I b.table c.args.table.now c.args_at-args.result.now of.args h c.as_slice.result.now c.in_ok-slots.slots.items c.requires.table c.args_at-args.ensures sets c.in_ok-slots.ensures.slots in
    let own : AreTableRows p (map (entry_of I) b.table) I b.table = subst (λ (q : ProblemData). AreTableRows q (map (entry_of I) b.table) I b.table) (sym c.requires.problem) (own_rows b.problem I b.table c.requires.fits.rows.shape) in
    let long : All (AreOfLength (params_of p of.rule) I) c.in_ok-slots.slots.items =
    c.rows_of_arguments_are_of_one_rule.ensures p (map (entry_of I) b.table) I b.table c.know_sorted_problem.ensures own c.requires.fits.rows.in_use c.args.point of at (sets_of I h) c.in_ok-slots.slots.items are in
    subst (λ k. All (AreOfLength (length (env_of_id c.slots_for.new.types k)) c.slots_for.new.types) c.as_slice-2.result.now) (sym (ap (λ (x : HeadTypeData). x.first) c.head.view_is))
    (subst (λ (K : InternerData). All (AreOfLength (length (env_of_id K h.first)) K) c.as_slice-2.result.now) (sym c.slots_for.ensures.same)
    (subst (λ n. All (AreOfLength n I) c.as_slice-2.result.now) (sym row.first.long) (subst (λ (z : List (List ℕ)). All (AreOfLength (params_of p of.rule) I) z) (sym c.as_slice-2.ensures.value) long)))

pub first_open-requires-clause-table : goal.first_open-requires-clause-table
first_open-requires-clause-table c = c.requires.table ∙ ap (λ (d : BasisData). d.table) (sym c.least_unions.ensures.basis)

pub first_open-requires-clause-ty : goal.first_open-requires-clause-ty
first_open-requires-clause-ty c =
    let p = c.args.problem.now in
    let I = c.args.types.now in
    let J = c.least_unions.new.types in
    let g : Grows I J = subst (λ (K : InternerData). Grows K J) c.slots_for.ensures.same c.least_unions.ensures.grows in
    let row = c.requires.head.row (point_at p.points c.args.point) (own_point p c.args.point c.requires.point) in
    subst (λ k. k < length J.types) (sym (ap (λ (h : HeadTypeData). h.ty) c.head.view_is)) (type_within I J g c.args.head.now.ty row.ty)

pub first_open-requires-clause-kept : goal.first_open-requires-clause-kept
first_open-requires-clause-kept c =
    let J = c.least_unions.new.types in
    subst (λ (z : List ℕ). AreInUse J z) (sym c.as_slice-3.ensures.value) (in_of _ J c.in_ok-kept.kept.items c.in_ok-kept.ensures.range)

pub returns-clause-opened : goal.returns-clause-opened
returns-clause-opened c =
    let p = c.args.problem.now in
    let I = c.args.types.now in
    let J = c.least_unions.new.types in
    let g : Grows I J = subst (λ (K : InternerData). Grows K J) c.slots_for.ensures.same c.least_unions.ensures.grows in
    let b = c.args.voids.now.basis in
    let h = c.args.head.now in
    let of = point_at p.points c.args.point in
    let at = own_point p c.args.point c.requires.point in
    let row = c.requires.head.row of at in
    let sets : c.as_slice.result.now ≡ h.sets = c.as_slice.ensures.value ∙ ap (λ (x : HeadTypeData). x.sets) c.head.view_is in
    let slots = c.in_ok-slots.slots.items in
    let kept = c.in_ok-kept.kept.items in
    let are = of_arguments I b.table c.args.table.now c.args_at-args.result.now of.args h c.as_slice.result.now slots c.requires.table c.args_at-args.ensures sets c.in_ok-slots.ensures.slots in
    let in_use = in_of _ J kept c.in_ok-kept.ensures.range in
    let least : LeastBy b I of.rule h.first slots J kept =
    least_so b I c.slots_for.new.types of.rule c.rule_at-rule.result h.first _ slots c.as_slice-2.result.now J kept c.slots_for.ensures.same c.rule_at-rule.ensures (ap (λ (x : HeadTypeData). x.first) c.head.view_is) c.as_slice-2.ensures.value
    c.in_ok-kept.ensures.least in
    IfOk-weaker c.first_open.result _
    (λ opened. (C : List EntryData) (V : List VoidData) (R : List (ℕ × ℕ)) (d : PointData) → StandFor b I C V → slice_get p.points.points c.args.point ≡ Some d → IsHeadTypeAt p C R c.args.point d (sets_of I h) (type_of_id I h.ty)
    → MatchOption opened (AreSettledBy p C V c.args.point d (sets_of I h) (type_of_id I h.ty)) (IsOpen p C V R c.first_open.new.types))
    (λ opened told. open_of b I J g c.args.point of h slots are kept in_use c.in_ok-kept.ensures.ascend opened p c.requires.problem c.know_sorted_problem.ensures at row least
    (told_so b c.least_unions.new.self.basis J c.args.point c.rule_at-rule.result of.rule _ h.ty c.as_slice-3.result.now kept opened c.least_unions.ensures.basis c.rule_at-rule.ensures (ap (λ (x : HeadTypeData). x.ty) c.head.view_is) c.as_slice-3.ensures.value told)
    c.first_open.new.types c.first_open.ensures.same) c.first_open.ensures.opened

pub returns-clause-grows : goal.returns-clause-grows
returns-clause-grows c =
    let J = c.least_unions.new.types in
    let g : Grows c.args.types.now J = subst (λ (K : InternerData). Grows K J) c.slots_for.ensures.same c.least_unions.ensures.grows in
    subst (λ (K : InternerData). Grows c.args.types.now K) (sym c.first_open.ensures.same) g
