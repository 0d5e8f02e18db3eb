use Rattle.std.proofs.Common.{◌≡◌, sym, ◌∙◌, ap, subst, ℕ, ◌<◌, List, ◌++◌, length, map, All}
use Rattle.std.proofs.lemmas.Result.{on_ok_weaker}
use Rattle.hs_scheme.specs.flow.Points.{point_at}
use Rattle.hs_table.specs.Entries.{params_of}
use Rattle.hs_types.specs.Interned.{InternerData, env_of_id, entry_of, Grows}
use Rattle.hs_choices.specs.Unions.{AreLeastUnions}
use Rattle.hs_choices.specs.Numbered.{envs_of, slot_envs, AreOfLength}
use Rattle.hs_choices.proofs.Growing.{in_of}
use Rattle.hs_heads.specs.HeadTypes.{HeadTypeData, sets_of}
use Rattle.hs_minimal.specs.Following.{row_with}
use Rattle.hs_minimal.proofs.FollowingLemmas.{own_rows, of_arguments, adds}
use Rattle.hs_minimal.proofs.SettlingLemmas.{own_point}
use Rattle.hs_minimal.proofs.following.add_following.Goals as goal

pub slots_for-requires-clause-sets : goal.slots_for-requires-clause-sets
slots_for-requires-clause-sets c =
    let sets : c.as_slice.result.now ≡ c.args.head.now.sets = c.as_slice.ensures.value ∙ ap (λ (h : HeadTypeData). h.sets) c.head.view_is in
    subst (λ (ss : List ℕ). All (λ s. s < length c.args.types.now.sets) ss) (sym sets) c.requires.head.row.sets

pub slots_for-requires-clause-long : goal.slots_for-requires-clause-long
slots_for-requires-clause-long c =
    let sets : c.as_slice.result.now ≡ c.args.head.now.sets = c.as_slice.ensures.value ∙ ap (λ (h : HeadTypeData). h.sets) c.head.view_is in
    ap (λ (ss : List ℕ). length ss) sets ∙ (c.requires.head.long ∙ ap (λ (us : List ℕ). length us) (sym c.args_at-args.ensures))

pub least_unions-requires-clause-first : goal.least_unions-requires-clause-first
least_unions-requires-clause-first c =
    subst (λ k. k < length c.slots_for.new.types.envs) (sym (ap (λ (h : HeadTypeData). h.first) c.head.view_is))
    (subst (λ (I : InternerData). c.args.head.now.first < length I.envs) (sym c.slots_for.ensures.same) c.requires.head.row.env)

pub least_unions-requires-clause-slots : goal.least_unions-requires-clause-slots
least_unions-requires-clause-slots c =
    let p = c.args.problem.now in
    let I = c.args.types.now in
    let h = c.args.head.now in
    let of = point_at p.points c.args.point in
    let at = own_point p c.args.point c.requires.point in
    let row = c.requires.head.row in
    let sets : c.as_slice.result.now ≡ h.sets = c.as_slice.ensures.value ∙ ap (λ (x : HeadTypeData). x.sets) c.head.view_is in
    let are = of_arguments I c.args.rows.now c.args_at-args.result.now of.args h c.as_slice.result.now c.in_ok-slots.slots.items c.args_at-args.ensures sets c.in_ok-slots.ensures.slots in
    let long : All (AreOfLength (params_of p of.rule) I) c.in_ok-slots.slots.items =
    c.rows_of_arguments_are_of_one_rule.ensures p (map (entry_of I) c.args.rows.now) I c.args.rows.now c.know_sorted_problem.ensures (own_rows p I c.args.rows.now c.requires.shape) c.requires.rows c.args.point of at (sets_of I h) c.in_ok-slots.slots.items are in
    subst (λ k. All (AreOfLength (length (env_of_id c.slots_for.new.types k)) c.slots_for.new.types) c.as_slice-2.result.now) (sym (ap (λ (x : HeadTypeData). x.first) c.head.view_is))
    (subst (λ (K : InternerData). All (AreOfLength (length (env_of_id K h.first)) K) c.as_slice-2.result.now) (sym c.slots_for.ensures.same)
    (subst (λ n. All (AreOfLength n I) c.as_slice-2.result.now) (sym row.first.long) (subst (λ (z : List (List ℕ)). All (AreOfLength (params_of p of.rule) I) z) (sym c.as_slice-2.ensures.value) long)))

pub returns-clause-added : goal.returns-clause-added
returns-clause-added c =
    let p = c.args.problem.now in
    let I = c.args.types.now in
    let J = c.least_unions.new.types in
    let g : Grows I J = subst (λ (K : InternerData). Grows K J) c.slots_for.ensures.same c.least_unions.ensures.grows in
    let h = c.args.head.now in
    let of = point_at p.points c.args.point in
    let at = own_point p c.args.point c.requires.point in
    let sets : c.as_slice.result.now ≡ h.sets = c.as_slice.ensures.value ∙ ap (λ (x : HeadTypeData). x.sets) c.head.view_is in
    let slots = c.in_ok-slots.slots.items in
    let kept = c.in_ok-envs.envs.items in
    let are = of_arguments I c.args.rows.now c.args_at-args.result.now of.args h c.as_slice.result.now slots c.args_at-args.ensures sets c.in_ok-slots.ensures.slots in
    let first_is = ap (λ (x : HeadTypeData). x.first) c.head.view_is in
    let least : AreLeastUnions (length (env_of_id I h.first)) (λ E. ⊥) (env_of_id I h.first) (slot_envs I slots) (envs_of J kept) =
    subst (λ k. AreLeastUnions (length (env_of_id I k)) (λ E. ⊥) (env_of_id I k) (slot_envs I slots) (envs_of J kept)) first_is
    (subst (λ (z : List (List ℕ)). AreLeastUnions (length (env_of_id I c.head.inside.first)) (λ E. ⊥) (env_of_id I c.head.inside.first) (slot_envs I z) (envs_of J kept)) c.as_slice-2.ensures.value
    (subst (λ (K : InternerData). AreLeastUnions (length (env_of_id K c.head.inside.first)) (λ E. ⊥) (env_of_id K c.head.inside.first) (slot_envs K c.as_slice-2.result.now) (envs_of J kept)) c.slots_for.ensures.same c.in_ok-envs.ensures.least)) in
    let old = c.args.found.now.items in
    let new = c.add_rows.new.found.items in
    let ty_is = ap (λ (x : HeadTypeData). x.ty) c.head.view_is in
    on_ok_weaker c.add_rows.result (λ added.
    let new_is : new ≡ old ++ map (row_with c.args.point h.ty) kept = added ∙ (λ i. old ++ map (row_with c.args.point (ty_is i)) (c.as_slice-3.ensures.value i)) in
    λ C R d stand d_at head. adds p c.know_sorted_problem.ensures c.args.point I J g h c.requires.head.row c.args.rows.now slots are kept (in_of _ J kept c.in_ok-envs.ensures.range) c.in_ok-envs.ensures.ascend least old new new_is C R d stand d_at at head) c.add_rows.ensures
