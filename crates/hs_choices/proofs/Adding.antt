-- Unions are added one by one.
use Rattle.std.proofs.Common.{◌≡◌, refl, sym, ◌∙◌, ap, subst, ℕ, suc, ◌+◌, ◌≤◌, ◌<◌, List, [], ◌∷◌, ◌++◌, length, get_or, take, drop, arith, All, Contains, ◌⊎◌, inl, inr, ◌↔◌}
use Rattle.std.proofs.Math.Seq.{drop-cons}
use Rattle.std.proofs.lemmas.List.{take_all, drop_all}
use Rattle.std.proofs.lemmas.List.Elements.{All-contains, All-nil}
use Rattle.hs_scheme.proofs.Lists.{none_in, here, later, only}
use Rattle.hs_table.specs.Types.{TypeTree, IsSet}
use Rattle.hs_table.specs.Entries.{Env, Has, set_at}
use Rattle.hs_table_laws.proofs.Members.{from_map, into_map}
use Rattle.hs_types.specs.Interned.{InternerData, env_of_id, Grows, IsUnionEnv}
use Rattle.hs_weak.specs.Strength.{AsStrongAs, AsksAtLeast}
use Rattle.hs_choices.specs.Unions.{SomeHas, AsksOneOf, IsUnionOfEnvs, AreLeastUnions}
use Rattle.hs_choices.specs.Slots.{AscendAll}
use Rattle.hs_choices.specs.Numbered.{envs_of, slot_envs, AreOfLength, IsUnionMade, IsUnionWith, IsAdded, AreAllUnions}
use Rattle.hs_choices.proofs.Growing.{all_members, in_of, env_stays, envs_stay, of_grows, front_or_last, in_front, at_last}

-- what asks at least what two environments ask asks at least what their union asks
pub asks_union : (A B K U : Env) → IsUnionEnv A B K → AsksAtLeast AsStrongAs U A → AsksAtLeast AsStrongAs U B → AsksAtLeast AsStrongAs U K
asks_union A B K U union a b j t m = elim (((union.sets j).exact t).0 m) [
  | inl h ↦ a j t h
  | inr h ↦ b j t h
]

some_in : (Es Fs : List Env) (U : Env) → Es ≡ Fs → AsksOneOf Es U → AsksOneOf Fs U
some_in Es Fs U same s = (s.0, (subst (λ (z : List Env). Contains z s.0) same s.1.0, s.1.1))

-- before the first
pub none_added : (P : Env → Type 0) (E : InternerData) (before : List ℕ) (env : ℕ) (slot : List ℕ) → AreOfLength (length (env_of_id E env)) E before → IsAdded P E E before env (take 0 slot) before
none_added P E before env slot range = record {
  range = range;
  come = λ K m. inl m;
  keeps = λ U s. inl s;
  least = λ U a s. absurd (none_in s.0 s.1.0);
}

-- one more: what is left out then, Q, was left out before, P
module _ (P Q : Env → Type 0) (to : (U : Env) → Q U → P U) (D E F : InternerData) (g : Grows D E) (h : Grows E F) (before : List ℕ) (env : ℕ) (slot : List ℕ) (i x : ℕ) (lt : i < length slot) (is : x ≡ get_or slot i x)
    (env_is : env < length D.envs) (other_is : x < length D.envs) (kept : List ℕ) (added : IsAdded P D E before env (take i slot) kept) (u : ℕ) (made : IsUnionMade E F env x u) where
  union : IsUnionEnv (env_of_id D env) (env_of_id D x) (env_of_id F u)
  union = subst (λ (z : Env). IsUnionEnv z (env_of_id D x) (env_of_id F u)) (env_stays D E g env env_is) (subst (λ (z : Env). IsUnionEnv (env_of_id E env) z (env_of_id F u)) (env_stays D E g x other_is) made.1)

  kept_stay : envs_of F kept ≡ envs_of E kept
  kept_stay = envs_stay E F h kept (in_of (length (env_of_id D env)) E kept added.range)

  module _ (after : List ℕ) (come : (k : ℕ) → Contains after k → Contains kept k ⊎ (k ≡ u))
      (least : (U : Env) → AsksOneOf (envs_of F kept) U ⊎ AsksAtLeast AsStrongAs U (env_of_id F u) → AsksOneOf (envs_of F after) U ⊎ Q U) where
    dropped_back : (U : Env) → AsksOneOf (envs_of F after) U ⊎ Q U → AsksOneOf (envs_of F after) U ⊎ P U
    dropped_back U (inl s) = inl s
    dropped_back U (inr q) = inr (to U q)

    on : (U : Env) → AsksOneOf (envs_of E kept) U ⊎ P U → AsksOneOf (envs_of F after) U ⊎ P U
    on U (inl s) = dropped_back U (least U (inl (some_in (envs_of E kept) (envs_of F kept) U (sym kept_stay) s)))
    on U (inr s) = inr s

    member : (k : ℕ) → Contains after k → (k < length F.envs) × (length (env_of_id F k) ≡ length (env_of_id D env))
    member k m = elim (come k m) [
      | inl was ↦ All-contains (λ k. (k < length F.envs) × (length (env_of_id F k) ≡ length (env_of_id D env))) kept k (of_grows E F h (length (env_of_id D env)) kept added.range) was
      | inr same ↦ subst (λ k. (k < length F.envs) × (length (env_of_id F k) ≡ length (env_of_id D env))) (sym same) (made.0, union.long)
    ]

    comes : (K : Env) → Contains (envs_of F after) K → Contains (envs_of D before) K ⊎ IsUnionWith (env_of_id D env) (envs_of D (take (i + 1) slot)) K
    comes K m =
        let p = from_map (env_of_id F) after K m in
        elim (come p.item p.there) [
          | inl was ↦ elim (added.come K (subst (λ (z : List Env). Contains z K) kept_stay (subst (λ (z : Env). Contains (envs_of F kept) z) (sym p.is) (into_map (env_of_id F) kept p.item was)))) [
            | inl old ↦ inl old
            | inr w ↦ inr (record { other = w.other; there = in_front D slot i x lt is w.other w.there; union = w.union })
          ]
          | inr same ↦ inr (record {
            other = env_of_id D x;
            there = at_last D slot i x lt is;
            union = subst (λ (z : Env). IsUnionEnv (env_of_id D env) (env_of_id D x) z) (sym (p.is ∙ ap (env_of_id F) same)) union;
          })
        ]

    pub one_added : IsAdded P D F before env (take (i + 1) slot) after
    one_added = record {
      range = all_members (λ k. (k < length F.envs) × (length (env_of_id F k) ≡ length (env_of_id D env))) after member;
      come = comes;
      keeps = λ U s. on U (added.keeps U s);
      least = λ U a s. elim (front_or_last D slot i x lt is s.0 s.1.0) [
        | inl was ↦ on U (added.least U a (s.0, (was, s.1.1)))
        | inr same ↦ dropped_back U (least U (inr (asks_union (env_of_id D env) (env_of_id D x) (env_of_id F u) U union a (subst (λ (z : Env). AsksAtLeast AsStrongAs U z) same s.1.1))))
      ];
    }

pub no_unions : (P : Env → Type 0) (n : ℕ) (E : InternerData) (kept slot : List ℕ) → AreAllUnions P n E E (take 0 kept) slot []
no_unions P n E kept slot = record {
  range = All-nil (λ k. (k < length E.envs) × (length (env_of_id E k) ≡ n));
  come = λ K m. absurd (none_in K m);
  least = λ U s t. absurd (none_in s.0 s.1.0);
}

module _ (P Q : Env → Type 0) (to : (U : Env) → Q U → P U) (n : ℕ) (D E F : InternerData) (g : Grows D E) (kept slot : List ℕ) (kept_are : AreOfLength n D kept) (slot_is : AreOfLength n D slot) (i x : ℕ) (lt : i < length kept) (is : x ≡ get_or kept i x) (x_is : (x < length D.envs) × (length (env_of_id D x) ≡ n))
    (unions : List ℕ) (were : AreAllUnions P n D E (take i kept) slot unions) (after : List ℕ) (added : IsAdded Q E F unions x slot after) where
  x_stays : env_of_id E x ≡ env_of_id D x
  x_stays = env_stays D E g x x_is.0

  slot_stays : envs_of E slot ≡ envs_of D slot
  slot_stays = envs_stay D E g slot (in_of n D slot slot_is)

  back : (U : Env) → AsksOneOf (envs_of F after) U ⊎ Q U → AsksOneOf (envs_of F after) U ⊎ P U
  back U (inl s) = inl s
  back U (inr q) = inr (to U q)

  further : (U : Env) → AsksOneOf (envs_of E unions) U ⊎ P U → AsksOneOf (envs_of F after) U ⊎ P U
  further U (inl s) = back U (added.keeps U s)
  further U (inr s) = inr s

  pub more_unions : AreAllUnions P n D F (take (i + 1) kept) slot after
  more_unions = record {
    range = subst (λ m. AreOfLength m F after) (ap length x_stays ∙ x_is.1) added.range;
    come = λ K m. elim (added.come K m) [
      | inl was ↦ let w = were.come K was in (w.0, (in_front D kept i x lt is w.0 w.1.0, w.1.1))
      | inr w ↦ (
        env_of_id D x,
        (
          at_last D kept i x lt is,
          record {
            other = w.other;
            there = subst (λ (z : List Env). Contains z w.other) slot_stays w.there;
            union = subst (λ (z : Env). IsUnionEnv z w.other K) x_stays w.union;
          },
        ),
      )
    ];
    least = λ U s t. elim (front_or_last D kept i x lt is s.0 s.1.0) [
      | inl was ↦ further U (were.least U (s.0, (was, s.1.1)) t)
      | inr same ↦ back U (added.least U (subst (λ (z : Env). AsksAtLeast AsStrongAs U z) (same ∙ sym x_stays) s.1.1) (some_in (envs_of D slot) (envs_of E slot) U (sym slot_stays) t))
    ];
  }

alone : (A : Env) (j : ℕ) (a : TypeTree) → Has A j a ↔ SomeHas (A ∷ []) j a
alone A j a = (
  λ h. inl h,
  λ h. elim h [
    | inl k ↦ k
    | inr k ↦ absurd k
  ],
)

-- of no slots
pub least_alone : (P : Env → Type 0) (A : Env) → AreLeastUnions (length A) P A [] (A ∷ [])
least_alone P A = record {
  unions = λ K m. record {
    chosen = [];
    picked = tt;
    union = subst (λ (z : Env). IsUnionOfEnvs (length A) (A ∷ []) z) (sym (only A K m)) (record { long = refl; exact = alone A });
  };
  least = λ U a each. inl (A, (here A [], a));
}

union_more : (n : ℕ) (A E B K : Env) (chosen : List Env) → IsUnionOfEnvs n (A ∷ chosen) E → IsUnionEnv E B K → IsUnionOfEnvs n (A ∷ (B ∷ chosen)) K
union_more n A E B K chosen were union = record {
  long = union.long ∙ were.long;
  exact = λ j a. (
    λ m. elim (((union.sets j).exact a).0 m) [
      | inl h ↦ elim ((were.exact j a).0 h) [
        | inl k ↦ inl k
        | inr k ↦ inr (inr k)
      ]
      | inr h ↦ inr (inl h)
    ],
    λ m. ((union.sets j).exact a).1 (elim m [
      | inl h ↦ inl ((were.exact j a).1 (inl h))
      | inr r ↦ elim r [
        | inl h ↦ inr h
        | inr h ↦ inl ((were.exact j a).1 (inr h))
      ]
    ]),
  );
}

-- one slot more: what is left out then, Q, was left out before, P
module _ (P Q : Env → Type 0) (to : (U : Env) → Q U → P U) (n : ℕ) (D E F : InternerData) (g : Grows D E) (A : Env) (slot : List ℕ) (slot_is : AreOfLength n D slot) (rest : List (List ℕ))
    (kept : List ℕ) (were : AreLeastUnions n P A (slot_envs D rest) (envs_of E kept)) (after : List ℕ) (are : AreAllUnions Q n E F kept slot after) where
  slot_same : envs_of E slot ≡ envs_of D slot
  slot_same = envs_stay D E g slot (in_of n D slot slot_is)

  through : (U : Env) → AsksOneOf (envs_of D slot) U → AsksOneOf (envs_of E kept) U ⊎ P U → AsksOneOf (envs_of F after) U ⊎ P U
  through U t (inr s) = inr s
  through U t (inl s) = elim (are.least U s (some_in (envs_of D slot) (envs_of E slot) U (sym slot_same) t)) [
    | inl k ↦ inl k
    | inr q ↦ inr (to U q)
  ]

  pub least_more : AreLeastUnions n P A (slot_envs D (slot ∷ rest)) (envs_of F after)
  least_more = record {
    unions = λ K m.
        let c = are.come K m in
        let w = were.unions c.0 c.1.0 in
        record {
          chosen = c.1.1.other ∷ w.chosen;
          picked = (subst (λ (z : List Env). Contains z c.1.1.other) slot_same c.1.1.there, w.picked);
          union = union_more n A c.0 c.1.1.other K w.chosen w.union c.1.1.union;
        };
    least = λ U a each. through U (each (envs_of D slot) (here (envs_of D slot) (slot_envs D rest))) (were.least U a (λ s m. each s (later (envs_of D slot) s (slot_envs D rest) m)));
  }

-- the sets of unions are in order
pub unions_ascend : (P : Env → Type 0) (n : ℕ) (E F : InternerData) (kept slot unions : List ℕ) → AreAllUnions P n E F kept slot unions → AscendAll (envs_of F unions)
unions_ascend P n E F kept slot unions are K m j = let c = are.come K m in (c.1.1.union.sets j).ascends

pub added_all : (P : Env → Type 0) (D E : InternerData) (before : List ℕ) (env : ℕ) (slot : List ℕ) (i : ℕ) → length slot ≤ i → (kept : List ℕ) → IsAdded P D E before env (take i slot) kept → IsAdded P D E before env slot kept
added_all P D E before env slot i past kept h = subst (λ (z : List ℕ). IsAdded P D E before env z kept) (take_all i slot past) h

pub unions_of_all : (P : Env → Type 0) (n : ℕ) (D E : InternerData) (kept slot : List ℕ) (i : ℕ) → length kept ≤ i → (unions : List ℕ) → AreAllUnions P n D E (take i kept) slot unions → AreAllUnions P n D E kept slot unions
unions_of_all P n D E kept slot i past unions h = subst (λ (z : List ℕ). AreAllUnions P n D E z slot unions) (take_all i kept past) h

pub slot_long : (n : ℕ) (D : InternerData) (slots : List (List ℕ)) → All (AreOfLength n D) slots → (k : ℕ) → k < length slots → (slot : List ℕ) → slot ≡ get_or slots k slot → AreOfLength n D slot
slot_long n D slots long k lt slot is = subst (λ (z : List ℕ). AreOfLength n D z) (sym is) (long k slot lt)

pub first_long : (D : InternerData) (first : ℕ) → first < length D.envs → (kept : List ℕ) → kept ≡ first ∷ [] → AreOfLength (length (env_of_id D first)) D kept
first_long D first lt kept is = all_members (λ k. (k < length D.envs) × (length (env_of_id D k) ≡ length (env_of_id D first))) kept (λ k m.
    subst (λ z. (z < length D.envs) × (length (env_of_id D z) ≡ length (env_of_id D first))) (sym (only first k (subst (λ (ks : List ℕ). Contains ks k) is m))) (lt, refl))

pub first_ascends : (D : InternerData) (first : ℕ) → ((e j : ℕ) → IsSet (set_at (env_of_id D e) j)) → (kept : List ℕ) → kept ≡ first ∷ [] → AscendAll (envs_of D kept)
first_ascends D first ascend kept is K m j =
    subst (λ (z : Env). IsSet (set_at z j)) (sym (only (env_of_id D first) K (subst (λ (ks : List ℕ). Contains (envs_of D ks) K) is m))) (ascend first j)

-- the first alone
pub pushed_first : (none after : List ℕ) (first : ℕ) → none ≡ [] → after ≡ none ++ first ∷ [] → after ≡ first ∷ []
pushed_first none after first none_is after_is = after_is ∙ ap (λ (z : List ℕ). z ++ first ∷ []) none_is

-- of no slots
pub first_least : (P : Env → Type 0) (D : InternerData) (first : ℕ) (slots : List (List ℕ)) (kept : List ℕ) → kept ≡ first ∷ []
    → AreLeastUnions (length (env_of_id D first)) P (env_of_id D first) (slot_envs D (drop (length slots) slots)) (envs_of D kept)
first_least P D first slots kept is =
    let A = env_of_id D first in
    subst (λ (z : List ℕ). AreLeastUnions (length A) P A (slot_envs D (drop (length slots) slots)) (envs_of D z)) (sym is)
    (subst (λ (z : List (List ℕ)). AreLeastUnions (length A) P A (slot_envs D z) (A ∷ [])) (sym (drop_all (length slots) slots (omega arith))) (least_alone P A))

-- the slot before the others
pub least_next : (P Q : Env → Type 0) → ((U : Env) → Q U → P U) → (n : ℕ) (D E F : InternerData) → Grows D E → (A : Env) (slots : List (List ℕ)) → All (AreOfLength n D) slots → (left k : ℕ) → left ≡ suc k → k < length slots → (slot slice : List ℕ) → slot ≡ get_or slots k slot
    → slice ≡ slot → (kept : List ℕ) → AreLeastUnions n P A (slot_envs D (drop left slots)) (envs_of E kept) → (after : List ℕ) → AreAllUnions Q n E F kept slice after
    → AreLeastUnions n P A (slot_envs D (drop k slots)) (envs_of F after)
least_next P Q to n D E F g A slots long left k next lt slot slice is slice_is kept were after are =
    let front : drop k slots ≡ slot ∷ drop (suc k) slots = drop-cons slots k slot lt ∙ ap (λ (z : List ℕ). z ∷ drop (suc k) slots) (sym is) in
    let before : AreLeastUnions n P A (slot_envs D (drop (suc k) slots)) (envs_of E kept) = subst (λ m. AreLeastUnions n P A (slot_envs D (drop m slots)) (envs_of E kept)) next were in
    let more = least_more P Q to n D E F g A slot (slot_long n D slots long k lt slot is) (drop (suc k) slots) kept before after (subst (λ (z : List ℕ). AreAllUnions Q n E F kept z after) slice_is are) in
    subst (λ (z : List (List ℕ)). AreLeastUnions n P A (slot_envs D z) (envs_of F after)) (sym front) more

-- where more may be left out
pub left_out_more : (P Q : Env → Type 0) → ((U : Env) → P U → Q U) → (n : ℕ) (first : Env) (slots : List (List Env)) (kept : List Env) → AreLeastUnions n P first slots kept → AreLeastUnions n Q first slots kept
left_out_more P Q to n first slots kept h = record {
  unions = h.unions;
  least = λ U a each. elim (h.least U a each) [ inl k ↦ inl k | inr d ↦ inr (to U d) ];
}
