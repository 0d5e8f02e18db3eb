-- Numbers keep what they stand for, and what is taken from the front of a list of them.
use Rattle.std.proofs.Common.{◌≡◌, refl, sym, ◌∙◌, ap, subst, ℕ, ◌+◌, ◌≤◌, ◌<◌, Bool, true, false, IsTrue, ◌↔◌, List, [], ◌∷◌, ◌++◌, length, get_or, take, All, Contains, ◌⊎◌, inl, inr}
use Rattle.std.proofs.lemmas.List.{take_all}
use Rattle.std.proofs.lemmas.List.Elements.{All-weaker, All-contains_itself, Contains-append_left, Contains-append_right}
use Rattle.hs_scheme.proofs.Lists.{here}
use Rattle.hs_table.specs.Entries.{Env}
use Rattle.hs_table_laws.proofs.Members.{from_map, into_map, taken_next, pushed_cases}
use Rattle.hs_types.specs.Interned.{InternerData, env_of_id, Grows}
use Rattle.hs_types.proofs.Numbers.{env_within as within, env_stays as stays}
use Rattle.hs_types.proofs.ListLemmas.{items_at-begun}
use Rattle.hs_weak.specs.Strength.{AsStrongAs, AsksAtLeast}
use Rattle.hs_weak.proofs.Strength.{env_trans}
use Rattle.hs_choices.specs.Unions.{AsksOneOf}
use Rattle.hs_choices.specs.Numbered.{envs_of, AreInUse, AreOfLength}

pub all_members : {X : Type 0} (P : X → Type 0) (xs : List X) → ((x : X) → Contains xs x → P x) → All P xs
all_members P xs f = All-weaker (Contains xs) P f xs (All-contains_itself xs)

pub in_of : (n : ℕ) (E : InternerData) (ks : List ℕ) → AreOfLength n E ks → AreInUse E ks
in_of n E ks h = All-weaker (λ k. (k < length E.envs) × (length (env_of_id E k) ≡ n)) (λ k. k < length E.envs) (λ k q. q.0) ks h

module _ (E F : InternerData) (g : Grows E F) where
  pub env_within : (k : ℕ) → k < length E.envs → k < length F.envs
  env_within k h = within E F g k h

  pub env_stays : (k : ℕ) → k < length E.envs → env_of_id F k ≡ env_of_id E k
  env_stays k h = stays E F g k h

  pub envs_stay : (ks : List ℕ) → AreInUse E ks → envs_of F ks ≡ envs_of E ks
  envs_stay ks h = items_at-begun E.envs F.envs [] ks g.envs h

  pub of_grows : (n : ℕ) (ks : List ℕ) → AreOfLength n E ks → AreOfLength n F ks
  of_grows n ks h = All-weaker (λ k. (k < length E.envs) × (length (env_of_id E k) ≡ n)) (λ k. (k < length F.envs) × (length (env_of_id F k) ≡ n)) (λ k q. (env_within k q.0, ap length (env_stays k q.0) ∙ q.1)) ks h

-- one number more
module _ (E : InternerData) (xs : List ℕ) (i x : ℕ) (lt : i < length xs) (is : x ≡ get_or xs i x) where
  next : take (i + 1) xs ≡ take i xs ++ x ∷ []
  next = taken_next xs i x lt is

  pub front_or_last : (K : Env) → Contains (envs_of E (take (i + 1) xs)) K → Contains (envs_of E (take i xs)) K ⊎ (K ≡ env_of_id E x)
  front_or_last K m =
      let p = from_map (env_of_id E) (take (i + 1) xs) K m in
      elim (pushed_cases (take i xs) x p.item (subst (λ (ks : List ℕ). Contains ks p.item) next p.there)) [
        | inl was ↦ inl (subst (λ (z : Env). Contains (envs_of E (take i xs)) z) (sym p.is) (into_map (env_of_id E) (take i xs) p.item was))
        | inr same ↦ inr (p.is ∙ ap (env_of_id E) same)
      ]

  pub in_front : (K : Env) → Contains (envs_of E (take i xs)) K → Contains (envs_of E (take (i + 1) xs)) K
  in_front K m =
      let p = from_map (env_of_id E) (take i xs) K m in
      subst (λ (z : Env). Contains (envs_of E (take (i + 1) xs)) z) (sym p.is)
      (into_map (env_of_id E) (take (i + 1) xs) p.item (subst (λ (ks : List ℕ). Contains ks p.item) (sym next) (Contains-append_left (take i xs) (x ∷ []) p.item p.there)))

  pub at_last : Contains (envs_of E (take (i + 1) xs)) (env_of_id E x)
  at_last = into_map (env_of_id E) (take (i + 1) xs) x (subst (λ (ks : List ℕ). Contains ks x) (sym next) (Contains-append_right (take i xs) (x ∷ []) x (here x [])))

  pub none_asked : (U : Env) → (AsksOneOf (envs_of E (take i xs)) U → ⊥) → (AsksAtLeast AsStrongAs U (env_of_id E x) → ⊥) → AsksOneOf (envs_of E (take (i + 1) xs)) U → ⊥
  none_asked U none not s = elim (front_or_last s.0 s.1.0) [
    | inl was ↦ none (s.0, (was, s.1.1))
    | inr same ↦ not (subst (λ (z : Env). AsksAtLeast AsStrongAs U z) same s.1.1)
  ]

-- what a comparison tells, where the numbers stand for the same
module _ (I : InternerData) (k l : ℕ) (J : InternerData) (same : J ≡ I) (b : Bool) where
  pub is_so : b ≡ true → (IsTrue b ↔ AsksAtLeast AsStrongAs (env_of_id J k) (env_of_id J l)) → AsksAtLeast AsStrongAs (env_of_id I k) (env_of_id I l)
  is_so e tells = subst (λ (K : InternerData). AsksAtLeast AsStrongAs (env_of_id K k) (env_of_id K l)) same (tells.0 e)

  pub not_so : b ≡ false → (IsTrue b ↔ AsksAtLeast AsStrongAs (env_of_id J k) (env_of_id J l)) → AsksAtLeast AsStrongAs (env_of_id I k) (env_of_id I l) → ⊥
  not_so e tells h = let f : false ≡ true = sym e ∙ tells.1 (subst (λ (K : InternerData). AsksAtLeast AsStrongAs (env_of_id K k) (env_of_id K l)) (sym same) h) in cc

-- one of them is asked; none is
pub found_asked : (E : InternerData) (xs : List ℕ) (i x : ℕ) → i < length xs → x ≡ get_or xs i x → (U : Env) → AsksAtLeast AsStrongAs U (env_of_id E x) → IsTrue true ↔ AsksOneOf (envs_of E xs) U
found_asked E xs i x lt is U asks = (λ h. (env_of_id E x, (into_map (env_of_id E) xs x (i, lt, sym is), asks)), λ h. refl)

pub none_of_all : (E : InternerData) (xs : List ℕ) (i : ℕ) → length xs ≤ i → (U : Env) → (AsksOneOf (envs_of E (take i xs)) U → ⊥) → IsTrue false ↔ AsksOneOf (envs_of E xs) U
none_of_all E xs i past U none = (
  λ h. let f : false ≡ true = h in cc,
  λ s. absurd (none (s.0, (subst (λ (ks : List ℕ). Contains (envs_of E ks) s.0) (sym (take_all i xs past)) s.1.0, s.1.1))),
)

-- those that are kept without what asks more, one looked at after another
module _ (I : InternerData) (kept : List ℕ) (env i x : ℕ) (lt : i < length kept) (is : x ≡ get_or kept i x) where
  abbrev IsLost : ℕ → Type 0
  IsLost k = AsksAtLeast AsStrongAs (env_of_id I k) (env_of_id I env)

  at_front : (k : ℕ) → Contains (take (i + 1) kept) k → Contains (take i kept) k ⊎ (k ≡ x)
  at_front k m = pushed_cases (take i kept) x k (subst (λ (ks : List ℕ). Contains ks k) (taken_next kept i x lt is) m)

  pub left_more : (rest after : List ℕ) → after ≡ rest ++ x ∷ [] → ((k : ℕ) → Contains rest k → Contains kept k) → (k : ℕ) → Contains after k → Contains kept k
  left_more rest after after_is left k m = elim (pushed_cases rest x k (subst (λ (ks : List ℕ). Contains ks k) after_is m)) [
    | inl was ↦ left k was
    | inr same ↦ subst (λ z. Contains kept z) (sym same) (i, lt, sym is)
  ]

  pub lost_kept : (rest after : List ℕ) → after ≡ rest ++ x ∷ [] → ((k : ℕ) → Contains (take i kept) k → Contains rest k ⊎ IsLost k) → (k : ℕ) → Contains (take (i + 1) kept) k → Contains after k ⊎ IsLost k
  lost_kept rest after after_is lost k m = elim (at_front k m) [
    | inl was ↦ elim (lost k was) [
      | inl there ↦ inl (subst (λ (ks : List ℕ). Contains ks k) (sym after_is) (Contains-append_left rest (x ∷ []) k there))
      | inr gone ↦ inr gone
    ]
    | inr same ↦ inl (subst (λ (ks : List ℕ). Contains ks k) (sym after_is) (Contains-append_right rest (x ∷ []) k (subst (λ z. Contains (x ∷ []) z) (sym same) (here x []))))
  ]

  pub lost_more : (rest : List ℕ) → IsLost x → ((k : ℕ) → Contains (take i kept) k → Contains rest k ⊎ IsLost k) → (k : ℕ) → Contains (take (i + 1) kept) k → Contains rest k ⊎ IsLost k
  lost_more rest own lost k m = elim (at_front k m) [
    | inl was ↦ lost k was
    | inr same ↦ inr (subst (λ z. IsLost z) (sym same) own)
  ]

pub lost_all : (I : InternerData) (kept : List ℕ) (env i : ℕ) → length kept ≤ i → (rest : List ℕ)
    → ((k : ℕ) → Contains (take i kept) k → Contains rest k ⊎ AsksAtLeast AsStrongAs (env_of_id I k) (env_of_id I env)) → (k : ℕ) → Contains kept k → Contains rest k ⊎ AsksAtLeast AsStrongAs (env_of_id I k) (env_of_id I env)
lost_all I kept env i past rest lost k m = lost k (subst (λ (ks : List ℕ). Contains ks k) (sym (take_all i kept past)) m)

-- an environment is added, or isn't; P says what is left out
module _ (P : Env → Type 0) (I : InternerData) (kept : List ℕ) (env : ℕ) where
  abbrev Asks : Env → Type 0
  Asks U = AsksOneOf (envs_of I kept) U ⊎ AsksAtLeast AsStrongAs U (env_of_id I env)

  pub left_out : ((U : Env) → AsksAtLeast AsStrongAs U (env_of_id I env) → P U) → (U : Env) → Asks U → AsksOneOf (envs_of I kept) U ⊎ P U
  left_out more U (inl s) = inl s
  left_out more U (inr a) = inr (more U a)

  pub known_dropped : AsksOneOf (envs_of I kept) (env_of_id I env) → (U : Env) → Asks U → AsksOneOf (envs_of I kept) U ⊎ P U
  known_dropped s U (inl r) = inl r
  known_dropped s U (inr a) = inl (s.0, (s.1.0, env_trans U (env_of_id I env) s.0 a s.1.1))

  module _ (rest after : List ℕ) (after_is : after ≡ rest ++ env ∷ []) where
    into : (k : ℕ) → Contains rest k ⊎ (k ≡ env) → Contains after k
    into k (inl m) = subst (λ (ks : List ℕ). Contains ks k) (sym after_is) (Contains-append_left rest (env ∷ []) k m)
    into k (inr e) = subst (λ (ks : List ℕ). Contains ks k) (sym after_is) (Contains-append_right rest (env ∷ []) k (subst (λ z. Contains (env ∷ []) z) (sym e) (here env [])))

    pub come_added : ((k : ℕ) → Contains rest k → Contains kept k) → (k : ℕ) → Contains after k → Contains kept k ⊎ (k ≡ env)
    come_added left k m = elim (pushed_cases rest env k (subst (λ (ks : List ℕ). Contains ks k) after_is m)) [
      | inl was ↦ inl (left k was)
      | inr same ↦ inr same
    ]

    pub least_added : ((k : ℕ) → Contains kept k → Contains rest k ⊎ AsksAtLeast AsStrongAs (env_of_id I k) (env_of_id I env)) → (U : Env) → Asks U → AsksOneOf (envs_of I after) U ⊎ P U
    least_added lost U (inr a) = inl (env_of_id I env, (into_map (env_of_id I) after env (into env (inr refl)), a))
    least_added lost U (inl s) =
        let p = from_map (env_of_id I) kept s.0 s.1.0 in
        let asks : AsksAtLeast AsStrongAs U (env_of_id I p.item) = subst (λ (z : Env). AsksAtLeast AsStrongAs U z) p.is s.1.1 in
        inl (elim (lost p.item p.there) [
          | inl was ↦ (env_of_id I p.item, (into_map (env_of_id I) after p.item (into p.item (inl was)), asks))
          | inr stronger ↦ (env_of_id I env, (into_map (env_of_id I) after env (into env (inr refl)), env_trans U (env_of_id I p.item) (env_of_id I env) asks stronger))
        ])

pub long_at : (n : ℕ) (I : InternerData) (ks : List ℕ) (i x : ℕ) → i < length ks → x ≡ get_or ks i x → AreOfLength n I ks → (x < length I.envs) × (length (env_of_id I x) ≡ n)
long_at n I ks i x lt is all = subst (λ k. (k < length I.envs) × (length (env_of_id I k) ≡ n)) (sym is) (all i x lt)

-- told of what is the same
module _ (I J : InternerData) (same : J ≡ I) (ks slice : List ℕ) (slice_is : slice ≡ ks) (env : ℕ) where
  pub asked_so : AsksOneOf (envs_of J slice) (env_of_id J env) → AsksOneOf (envs_of I ks) (env_of_id I env)
  asked_so s = subst (λ (K : InternerData). AsksOneOf (envs_of K ks) (env_of_id K env)) same (subst (λ (z : List ℕ). AsksOneOf (envs_of J z) (env_of_id J env)) slice_is s)

  pub lost_so : (rest : List ℕ) → ((k : ℕ) → Contains slice k → Contains rest k ⊎ AsksAtLeast AsStrongAs (env_of_id J k) (env_of_id J env)) → (k : ℕ) → Contains ks k → Contains rest k ⊎ AsksAtLeast AsStrongAs (env_of_id I k) (env_of_id I env)
  lost_so rest lost k m =
      subst (λ (K : InternerData). Contains rest k ⊎ AsksAtLeast AsStrongAs (env_of_id K k) (env_of_id K env)) same (lost k (subst (λ (z : List ℕ). Contains z k) (sym slice_is) m))
