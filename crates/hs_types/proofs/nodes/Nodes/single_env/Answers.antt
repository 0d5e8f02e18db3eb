use Rattle.std.proofs.Common.{◌≡◌, ◌<◌, ℕ, ap, ◌∙◌, Some, ◌∷◌, [], map, replicate, slice_get, slice_set, length, arith}
use Rattle.std.proofs.lemmas.List.{length-replicate}
use Rattle.std.proofs.lemmas.List.Elements.{All-nil, All-cons}
use Rattle.std.proofs.lemmas.Result.{IfOk-weaker}
use Rattle.hs_table.specs.Entries.{Env}
use Rattle.hs_table_laws.proofs.Sets.{no_set, one_set}
use Rattle.hs_types.specs.Interned.{type_of_id, set_of_id}
use Rattle.hs_types.proofs.MakeLemmas.{single_set, single_range, set_refilled}
use Rattle.hs_types.proofs.Numbers.{Grows-trans}
use Rattle.hs_types.proofs.nodes.Nodes.single_env.Goals as goal

pub latest_set-requires-clause-ascends : goal.latest_set-requires-clause-ascends
latest_set-requires-clause-ascends c = one_set (type_of_id c.args.self.now c.args.ty)

pub latest_set-requires-2-clause-ascends : goal.latest_set-requires-2-clause-ascends
latest_set-requires-2-clause-ascends c = no_set

pub returns-in_err-empty-clause-grows : goal.returns-in_err-empty-clause-grows
returns-in_err-empty-clause-grows c = Grows-trans c.args.self.now c.latest_set.new.self c.latest_set-2.new.self c.latest_set.ensures.grows c.latest_set-2.ensures.grows

pub returns-in_err-sets-clause-grows : goal.returns-in_err-sets-clause-grows
returns-in_err-sets-clause-grows c = Grows-trans c.args.self.now c.latest_set.new.self c.latest_set-2.new.self c.latest_set.ensures.grows c.latest_set-2.ensures.grows

pub bounds-deref_mut-x : goal.bounds-deref_mut-x
bounds-deref_mut-x c =
    omega (arith, c.requires.x, ap length c.deref_mut.ensures.value, ap length (c.in_ok-sets.ensures.items_if_clones_equal (λ y e. e)), length-replicate c.args.n c.in_ok-empty.empty)

pub number_env-requires : goal.number_env-requires
number_env-requires c =
    single_range c.latest_set.new.self c.latest_set-2.new.self c.args.n c.args.x c.in_ok-single.single c.in_ok-empty.empty (type_of_id c.args.self.now c.args.ty ∷ []) c.in_ok-sets.sets.items c.as_slice.result.now
    c.latest_set-2.ensures.grows c.in_ok-single.ensures.ok c.in_ok-empty.ensures.ok (c.in_ok-sets.ensures.items_if_clones_equal (λ y e. e)) (c.as_slice.ensures ∙ set_refilled c.in_ok-sets.sets.items c.deref_mut.result.now c.args.x c.in_ok-single.single c.deref_mut.ensures.value)

pub returns-clause-ok : goal.returns-clause-ok
returns-clause-ok c =
    let K = c.number_env.new.self in
    let J = c.latest_set-2.new.self in
    let single = type_of_id c.args.self.now c.args.ty ∷ [] in
    IfOk-weaker c.number_env.result (λ id. slice_get K.envs id ≡ Some (map (set_of_id J) c.as_slice.result.now)) (λ id. slice_get K.envs id ≡ Some (slice_set (replicate c.args.n []) c.args.x single))
    (λ id at.
    at
    ∙ ap (λ (e : Env). Some e) (single_set c.latest_set.new.self J c.args.n c.args.x c.in_ok-single.single c.in_ok-empty.empty single c.in_ok-sets.sets.items c.as_slice.result.now
    c.in_ok-empty.ensures.grows c.in_ok-single.ensures.ok c.in_ok-empty.ensures.ok (c.in_ok-sets.ensures.items_if_clones_equal (λ y e. e)) (c.as_slice.ensures ∙ set_refilled c.in_ok-sets.sets.items c.deref_mut.result.now c.args.x c.in_ok-single.single c.deref_mut.ensures.value))) c.number_env.ensures.ok

pub returns-clause-grows : goal.returns-clause-grows
returns-clause-grows c =
    let J = c.latest_set.new.self in
    let K = c.latest_set-2.new.self in
    Grows-trans c.args.self.now K c.number_env.new.self (Grows-trans c.args.self.now J K c.latest_set.ensures.grows c.latest_set-2.ensures.grows) c.number_env.ensures.grows

pub latest_set-requires-clause-range : goal.latest_set-requires-clause-range
latest_set-requires-clause-range c = let P : ℕ → Type 0 = λ t. t < length c.args.self.now.types in All-cons P c.args.ty [] c.requires.ty (All-nil P)

pub latest_set-requires-2-clause-range : goal.latest_set-requires-2-clause-range
latest_set-requires-2-clause-range c = All-nil (λ t. t < length c.latest_set.new.self.types)
