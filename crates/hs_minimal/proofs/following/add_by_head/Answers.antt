use Rattle.std.proofs.Common.{◌≡◌, sym, ◌∙◌, ap, subst, ℕ, ◌<◌, List, length, All, Contains, Some, slice_get, OnOk}
use Rattle.std.proofs.lemmas.Bool.{false≢true}
use Rattle.hs_scheme.specs.flow.Points.{PointData}
use Rattle.hs_table.specs.Entries.{EntryData, InShape}
use Rattle.hs_types.specs.Interned.{InternerData, RowData, IsRow, type_of_id, entry_of, Grows}
use Rattle.hs_types.proofs.Numbers.{Grows-refl}
use Rattle.hs_choices.specs.Numbered.{AreTableRows}
use Rattle.hs_heads.specs.HeadTypes.{HeadTypeData, sets_of, IsHeadTypeAt}
use Rattle.hs_minimal.specs.Following.{IsSplitAtArgs, AddsFollowing}
use Rattle.hs_minimal.proofs.ChoosingLemmas.{none_to_choose}
use Rattle.hs_minimal.proofs.SettlingLemmas.{own_point}
use Rattle.hs_minimal.proofs.following.add_by_head.Goals as goal

pub may_choose-requires-clause-sets : goal.may_choose-requires-clause-sets
may_choose-requires-clause-sets c =
    let sets : c.as_slice.result.now ≡ c.args.head.now.sets = c.as_slice.ensures.value ∙ ap (λ (h : HeadTypeData). h.sets) c.head.view_is in
    subst (λ (ss : List ℕ). All (λ s. s < length c.args.types.now.sets) ss) (sym sets) c.requires.head.row.sets

pub may_choose-requires-clause-long : goal.may_choose-requires-clause-long
may_choose-requires-clause-long c =
    let sets : c.as_slice.result.now ≡ c.args.head.now.sets = c.as_slice.ensures.value ∙ ap (λ (h : HeadTypeData). h.sets) c.head.view_is in
    ap (λ (ss : List ℕ). length ss) sets ∙ (c.requires.head.long ∙ ap (λ (us : List ℕ). length us) (sym c.args_at.ensures))

pub returns-then-not-branch-clause-added : goal.returns-then-not-branch-clause-added
returns-then-not-branch-clause-added c =
    let p = c.args.problem.now in
    let I = c.args.types.now in
    let h = c.args.head.now in
    let sets : c.as_slice.result.now ≡ h.sets = c.as_slice.ensures.value ∙ ap (λ (x : HeadTypeData). x.sets) c.head.view_is in
    λ C R of stand at head.
    none_to_choose p I c.args.rows.now C stand c.args.point of at c.args_at.result.now (c.args_at.ensures) (own_point p c.args.point c.requires.point) c.as_slice.result.now h sets (λ tells. false≢true (sym c.if-not-branch.true ∙ c.in_ok-may_choose.ensures.ok tells)) c.may_choose.new.types c.args.found.now.items

pub returns-then-not-branch-clause-grows : goal.returns-then-not-branch-clause-grows
returns-then-not-branch-clause-grows c = subst (λ (K : InternerData). Grows c.args.types.now K) (sym c.may_choose.ensures.same) (Grows-refl c.args.types.now)

pub add_following-requires-clause-rows : goal.add_following-requires-clause-rows
add_following-requires-clause-rows c = subst (λ (K : InternerData). All (IsRow K) c.args.rows.now) (sym c.may_choose.ensures.same) c.requires.rows

pub add_following-requires-clause-shape : goal.add_following-requires-clause-shape
add_following-requires-clause-shape c = subst (λ (K : InternerData). (r : RowData) → Contains c.args.rows.now r → InShape c.args.problem.now (entry_of K r)) (sym c.may_choose.ensures.same) c.requires.shape

pub add_following-requires-clause-head : goal.add_following-requires-clause-head
add_following-requires-clause-head c = subst (λ (K : InternerData). IsSplitAtArgs c.args.problem.now c.args.point K c.args.head.now) (sym c.may_choose.ensures.same) c.requires.head

pub returns-clause-added : goal.returns-clause-added
returns-clause-added c =
    let p = c.args.problem.now in
    let h = c.args.head.now in
    let J = c.add_following.new.types in
    let old = c.args.found.now.items in
    let new = c.add_following.new.found.items in
    subst (λ (K : InternerData). OnOk c.add_following.result ((C : List EntryData) (R : List (ℕ × ℕ)) (of : PointData) → AreTableRows p C K c.args.rows.now → slice_get p.points.points c.args.point ≡ Some of
    → IsHeadTypeAt p C R c.args.point of (sets_of K h) (type_of_id K h.ty) → AddsFollowing p C c.args.point of J (sets_of K h) (type_of_id K h.ty) old new)) c.may_choose.ensures.same c.add_following.ensures.added

pub returns-clause-grows : goal.returns-clause-grows
returns-clause-grows c = subst (λ (K : InternerData). Grows K c.add_following.new.types) c.may_choose.ensures.same c.add_following.ensures.grows
