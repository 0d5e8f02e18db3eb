-- The union of two environments, set by set.
use Rattle.std.proofs.Common.{◌≡◌, sym, ◌∙◌, ap, subst, ℕ, ◌+◌, ◌<◌, List, [], ◌∷◌, ◌++◌, length, map, get_or, slice_get, Some, arith, All, inl, inr}
use Rattle.std.proofs.lemmas.Bool.{cases_lt}
use Rattle.std.proofs.lemmas.List.{length-map, get_or-map, get_or_append_left, get_or_push, get_or_past}
use Rattle.std.proofs.lemmas.List.Elements.{All-push, All-weaker}
use Rattle.std.proofs.lemmas.Option.{get_or_from_slice_get, slice_get_within}
use Rattle.hs_table.specs.Entries.{Env, set_at}
use Rattle.hs_table_laws.proofs.Sets.{no_set}
use Rattle.hs_types.specs.Interned.{InternerData, set_of_id, env_of_id, IsUnion, IsUnionEnv, Grows}
use Rattle.hs_types.proofs.Numbers.{set_stays, set_within, env_stays}
use Rattle.hs_types.proofs.UnionLemmas.{union_same}

-- the set at a place, by the number there
set_at_place : (J : InternerData) (xs : List ℕ) (e : Env) (place first : ℕ) → map (set_of_id J) xs ≡ e → place < length xs → first ≡ get_or xs place first → set_of_id J first ≡ set_at e place
set_at_place J xs e place first are lt at =
    ap (set_of_id J) at ∙ sym (get_or-map (set_of_id J) xs place first [] lt) ∙ ap (λ (z : Env). set_at z place) are

-- there are as many numbers as sets
pub sets_long : (J : InternerData) (xs : List ℕ) (e : Env) → map (set_of_id J) xs ≡ e → length xs ≡ length e
sets_long J xs e are = sym (length-map xs (set_of_id J)) ∙ ap (λ (z : Env). length z) are

-- the union of the sets at a place, by the numbers there
pub union_at_place : (I J : InternerData) (xs ys : List ℕ) (e f : Env) (place first second u : ℕ) → map (set_of_id I) xs ≡ e → map (set_of_id I) ys ≡ f → place < length xs → place < length ys
    → first ≡ get_or xs place first → second ≡ get_or ys place second → (u < length J.sets) × IsUnion (set_of_id I first) (set_of_id I second) (set_of_id J u) → (u < length J.sets) × IsUnion (set_at e place) (set_at f place) (set_of_id J u)
union_at_place I J xs ys e f place first second u es fs x_in y_in x y h = (
  h.0,
  subst (λ s. IsUnion s (set_at f place) (set_of_id J u)) (set_at_place I xs e place first es x_in x) (subst (λ s. IsUnion (set_of_id I first) s (set_of_id J u)) (set_at_place I ys f place second fs y_in y) h.1),
)

-- there are as many sets as before
pub still_long : (I J : InternerData) (a : ℕ) → Grows I J → a < length I.envs → length (env_of_id J a) ≡ length (env_of_id I a)
still_long I J a g h = ap (λ (z : Env). length z) (env_stays I J g a h)

module _ (I J K : InternerData) (g : Grows I J) (h : Grows J K) (a b : ℕ) (a_in : a < length I.envs) (b_in : b < length I.envs) (us new : List ℕ) (place u : ℕ) (long : length us ≡ place) (in_range : All (λ s. s < length J.sets) us)
    (ok : (u < length K.sets) × IsUnion (set_at (env_of_id J a) place) (set_at (env_of_id J b) place) (set_of_id K u)) (e : new ≡ us ++ u ∷ []) where
  pub joined_range : All (λ s. s < length K.sets) new
  joined_range =
      subst (λ (zs : List ℕ). All (λ s. s < length K.sets) zs) (sym e)
      (All-push (λ s. s < length K.sets) us u (All-weaker (λ s. s < length J.sets) (λ s. s < length K.sets) (λ s lt. set_within J K h s lt) us in_range) ok.0)

  own : IsUnion (set_at (env_of_id I a) place) (set_at (env_of_id I b) place) (set_of_id K u)
  own =
      let x = ap (λ (z : Env). set_at z place) (env_stays I J g a a_in) in
      let y = ap (λ (z : Env). set_at z place) (env_stays I J g b b_in) in
      subst (λ s. IsUnion s (set_at (env_of_id I b) place) (set_of_id K u)) x (subst (λ s. IsUnion (set_at (env_of_id J a) place) s (set_of_id K u)) y ok.1)

  pub joined_each : ((k : ℕ) → k < place → IsUnion (set_at (env_of_id I a) k) (set_at (env_of_id I b) k) (set_of_id J (get_or us k 0)))
      → (k : ℕ) → k < place + 1 → IsUnion (set_at (env_of_id I a) k) (set_at (env_of_id I b) k) (set_of_id K (get_or new k 0))
  joined_each each k lt = elim (cases_lt k place) [
    | inl before ↦
        let n : get_or new k 0 ≡ get_or us k 0 = ap (λ (zs : List ℕ). get_or zs k 0) e ∙ get_or_append_left us (u ∷ []) 0 k (omega (arith, before, long)) in
        let w : get_or us k 0 < length J.sets = in_range k 0 (omega (arith, before, long)) in
        subst (IsUnion (set_at (env_of_id I a) k) (set_at (env_of_id I b) k)) (sym (ap (set_of_id K) n ∙ set_stays J K h (get_or us k 0) w)) (each k before)
    | inr behind ↦
        let is : place ≡ k = omega (arith, lt, behind) in
        let n : get_or new place 0 ≡ u = ap (λ (zs : List ℕ). get_or zs place 0) e ∙ get_or_push us u 0 place long in
        subst (λ j. IsUnion (set_at (env_of_id I a) j) (set_at (env_of_id I b) j) (set_of_id K (get_or new j 0))) is
        (subst (IsUnion (set_at (env_of_id I a) place) (set_at (env_of_id I b) place)) (sym (ap (set_of_id K) n)) own)
  ]

-- the unions of all sets are the union of the environments
pub joined_all : (e f : Env) (J N : InternerData) (us slice : List ℕ) (id : ℕ) → length e ≡ length f → length us ≡ length e
    → ((k : ℕ) → k < length e → IsUnion (set_at e k) (set_at f k) (set_of_id J (get_or us k 0))) → slice ≡ us → slice_get N.envs id ≡ Some (map (set_of_id J) slice)
    → (id < length N.envs) × IsUnionEnv e f (env_of_id N id)
joined_all e f J N us slice id long same each is at =
    let U = map (set_of_id J) us in
    let at' : slice_get N.envs id ≡ Some U = at ∙ ap (λ (zs : List ℕ). Some (map (set_of_id J) zs)) is in
    let u_long : length U ≡ length e = length-map us (set_of_id J) ∙ same in
    let union : IsUnionEnv e f U = record {
      long = u_long;
      sets = λ j. elim (cases_lt j (length e)) [
        | inl lt ↦ subst (IsUnion (set_at e j) (set_at f j)) (sym (get_or-map (set_of_id J) us j 0 [] (omega (arith, lt, same)))) (each j lt)
        | inr past ↦
            subst (λ s. IsUnion s (set_at f j) (set_at U j)) (sym (get_or_past e j [] past))
            (subst (λ s. IsUnion [] s (set_at U j)) (sym (get_or_past f j [] (omega (arith, past, long)))) (subst (IsUnion [] []) (sym (get_or_past U j [] (omega (arith, past, u_long)))) (union_same [] no_set)))
      ];
    } in
    (slice_get_within N.envs id U at', subst (IsUnionEnv e f) (sym (get_or_from_slice_get N.envs id U [] at')) union)
