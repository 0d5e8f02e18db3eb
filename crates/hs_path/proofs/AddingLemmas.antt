-- What is added: packs and evidences, one behind the other.
use Rattle.std.proofs.Common.{◌≡◌, refl, sym, ◌∙◌, ap, subst as along, ℕ, suc, ◌+◌, ◌<◌, ◌≤◌, if◌then◌else◌, List, [], ◌∷◌, ◌++◌, length, drop, get_or, map, slice_get, Some, arith, inl, inr}
use Rattle.std.proofs.lemmas.List.{drop_more, drop_all, length_push}
use Rattle.std.proofs.lemmas.Bool.{eq-eqb, cases_order}
use Rattle.std.proofs.lemmas.Option.{get_or_from_slice_get}
use Rattle.hs_table.specs.Types.{TypeTree}
use Rattle.hs_table.specs.Entries.{Env, set_at}
use Rattle.hs_verdict.specs.Evidence.{Evidence, Packs, Pack, evidence, no_packs, put, also, stacked, pack_for, packs_for}
use Rattle.hs_verdict.specs.Naming.{chosen_pack, argument_packs}
use Rattle.hs_path.specs.declared.evidence.Node.{Node}
use Rattle.hs_path.specs.declared.evidence.Store.{Store}
use Rattle.hs_path.specs.Stored.{Stands, Piled, Members, IsPack, GrowsStore, KnowsCurrent, ArePremises}
use Rattle.hs_path.proofs.StoredLemmas.{stands_grow, piled_grow, members_grow, begins_pushed, pushed_at}

pub knows_grow : (bound : ℕ) (old new : Store) (g : GrowsStore old new) (below more_ : ℕ) (n : Node) (own : Packs) → below ≤ more_ → KnowsCurrent bound old below n own → KnowsCurrent bound new more_ n own
knows_grow bound old new g below more_ n own le k = record {
  nothing = stands_grow bound old new g 0 (evidence 0 no_packs) k.nothing;
  some = omega (arith, k.some);
  packs = piled_grow bound old new g below more_ old.owns.items new.owns.items n.own.from n.own.to own le g.owns k.packs;
}

pub premises_grow : (bound : ℕ) (old new : Store) (g : GrowsStore old new) (first : ℕ) (give : ℕ → Evidence) (chosen : List (ℕ × ℕ)) → ArePremises bound old first give chosen → ArePremises bound new first give chosen
premises_grow bound old new g first give chosen are = record { each = λ k argument place at. stands_grow bound old new g (first + k) (give place) (are.each k argument place at) }

-- a member more, in front of a pack
pub also_pushed : (bound : ℕ) (old new : Store) (g : GrowsStore old new) (below from number : ℕ) (e : Evidence) (pack : Pack) → new.members.items ≡ old.members.items ++ number ∷ []
    → number < below → Stands bound old number e → Members bound old below from (length old.members.items) pack → Members bound new below from (length new.members.items) (also e pack)
also_pushed bound old new g below from number e pack is lower stands members = (
  length old.members.items,
  number,
  ap length is ∙ length_push old.members.items number,
  pushed_at old.members.items new.members.items number (length old.members.items) is refl,
  lower,
  stands_grow bound old new g number e stands,
  members_grow bound old new g below below from (length old.members.items) pack (omega arith) members,
)

-- a pack more, in front of others
pub put_pushed : (bound : ℕ) (old new : Store) (g : GrowsStore old new) (below more_ : ℕ) (numbers longer : List ℕ) (from number : ℕ) (pack : Pack) (packs : Packs) → longer ≡ numbers ++ number ∷ []
    → below ≤ more_ → IsPack bound new more_ number pack → Piled bound old below numbers from (length numbers) packs → Piled bound new more_ longer from (length longer) (put pack packs)
put_pushed bound old new g below more_ numbers longer from number pack packs is le made piled = (
  length numbers,
  number,
  made.span,
  ap length is ∙ length_push numbers number,
  pushed_at numbers longer number (length numbers) is refl,
  made.at,
  made.members,
  piled_grow bound old new g below more_ numbers longer from (length numbers) packs le (begins_pushed numbers longer number is) piled,
)

-- the items from a place on
pub types_from : (give : TypeTree → Evidence) (f : ℕ → TypeTree) (ids : List ℕ) (k x : ℕ) → k < length ids → x ≡ get_or ids k x
    → pack_for give (map f (drop k ids)) ≡ also (give (f x)) (pack_for give (map f (drop (k + 1) ids)))
types_from give f ids k x lt is = ap (λ xs. pack_for give (map f xs)) (drop_more ids k x lt ∙ (λ i. sym is i ∷ drop (k + 1) ids))

pub sets_from : (give : ℕ → TypeTree → Evidence) (env : Env) (k : ℕ) → k < length env → packs_for give k (drop k env) ≡ put (pack_for (give k) (set_at env k)) (packs_for give (k + 1) (drop (k + 1) env))
sets_from give env k lt = ap (packs_for give k) (drop_more env k [] lt) ∙ ap (λ n. put (pack_for (give k) (set_at env k)) (packs_for give n (drop (k + 1) env))) (let e : suc k ≡ k + 1 = omega arith in e)

module _ (give : ℕ → Evidence) (i : ℕ) (chosen : List (ℕ × ℕ)) (k : ℕ) (lt : k < length chosen) where
  abbrev Choice : ℕ × ℕ
  Choice = get_or chosen k (0, 0)

  abbrev Rest : Pack
  Rest = chosen_pack give i (drop (k + 1) chosen)

  pub chosen_from : Choice.0 ≡ i → chosen_pack give i (drop k chosen) ≡ also (give Choice.1) Rest
  chosen_from e = ap (chosen_pack give i) (drop_more chosen k (0, 0) lt) ∙ ap (λ b. if b then also (give Choice.1) Rest else Rest) (eq-eqb Choice.0 i e)

-- the choice at place n has its evidence, too
pub each_chosen : (bound : ℕ) (old new : Store) (g : GrowsStore old new) (first : ℕ) (give : ℕ → Evidence) (chosen : List (ℕ × ℕ)) (n : ℕ)
    → ((k argument place : ℕ) → k < n → slice_get chosen k ≡ Some (argument, place) → Stands bound old (first + k) (give place))
    → Stands bound new (first + n) (give (get_or chosen n (0, 0)).1)
    → (k argument place : ℕ) → k < n + 1 → slice_get chosen k ≡ Some (argument, place) → Stands bound new (first + k) (give place)
each_chosen bound old new g first give chosen n each last k argument place lt at = elim (cases_order k n) [
  | inl e ↦
      let choice : get_or chosen n (0, 0) ≡ (argument, place) = ap (λ m. get_or chosen m (0, 0)) (sym e) ∙ get_or_from_slice_get chosen k (argument, place) (0, 0) at in
      along (λ (m : ℕ). Stands bound new (first + m) (give place)) (sym e) (along (λ (c : ℕ × ℕ). Stands bound new (first + n) (give c.1)) choice last)
  | inr other ↦ elim other [
    | inl less ↦ stands_grow bound old new g (first + k) (give place) (each k argument place less at)
    | inr greater ↦ absurd (omega (arith, greater))
  ]
]

module _ (give : ℕ → Evidence) where
  pub arguments_from : (us : List ℕ) (chosen : List (ℕ × ℕ)) (packs : Packs) (k : ℕ) → k < length us
      → stacked (argument_packs give k (drop k us) chosen) packs ≡ put (chosen_pack give k chosen) (stacked (argument_packs give (k + 1) (drop (k + 1) us) chosen) packs)
  arguments_from us chosen packs k lt =
      ap (λ xs. stacked (argument_packs give k xs chosen) packs) (drop_more us k 0 lt)
      ∙ ap (λ n. put (chosen_pack give k chosen) (stacked (argument_packs give n (drop (k + 1) us) chosen) packs)) (let e : suc k ≡ k + 1 = omega arith in e)

  pub arguments_end : (us : List ℕ) (chosen : List (ℕ × ℕ)) (packs : Packs) (k : ℕ) → length us ≤ k → stacked (argument_packs give k (drop k us) chosen) packs ≡ packs
  arguments_end us chosen packs k le = ap (λ xs. stacked (argument_packs give k xs chosen) packs) (drop_all k us le)
