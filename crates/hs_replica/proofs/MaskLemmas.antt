-- Masks of environments.
use Rattle.std.proofs.Common.{◌≡◌, sym, ◌∙◌, ap, subst, ℕ, zero, suc, ◌+◌, ◌*◌, ◌^◌, ◌%◌, ◌/◌, ◌<◌, ◌≤◌, List, [], ◌∷◌, ◌++◌, length, map, get_or, slice_get, Some, Contains, inl, inr, arith}
use Rattle.std.specs.Int.{bit_at, w128}
use Rattle.std.specs.Int.RustNames.{bit_or}
use Rattle.std.proofs.lemmas.Bool.{cases_lt, cases_eq}
use Rattle.std.proofs.lemmas.Nat.{div-mul-add, mod-mul-add}
use Rattle.std.proofs.lemmas.Nat.Bits.{bit_at-zero, bit_at_set_same, bit_at_set_other}
use Rattle.std.proofs.lemmas.List.{length-map}
use Rattle.std.proofs.lemmas.List.Elements.{Contains-append_left, Contains-append_right}
use Rattle.hs_scheme.proofs.Lists.{none_in, here}
use Rattle.hs_table.specs.Types.{TypeTree}
use Rattle.hs_table.specs.Entries.{Env, Has, set_at}
use Rattle.hs_table_laws.proofs.Members.{pushed_cases}
use Rattle.hs_types.specs.Interned.{InternerData, type_of_id, env_of_id, Grows}
use Rattle.hs_types.proofs.Numbers.{type_within, type_stays, env_within, env_stays}
use Rattle.hs_replica.specs.declared.masks.MaskKey.{MaskKey}
use Rattle.hs_replica.specs.Masks.{IsMask, HasMaskBelow, AddsBitsOf, AreMasks}

-- a bit tells its type and its parameter
pub same_bit : (n t j u i : ℕ) → j < n → i < n → t * n + j ≡ u * n + i → (t ≡ u) × (j ≡ i)
same_bit n t j u i lt below same = (
  sym (div-mul-add t n j lt) ∙ (ap (λ k. k / n) same ∙ div-mul-add u n i below),
  sym (mod-mul-add t n j lt) ∙ (ap (λ k. k % n) same ∙ mod-mul-add u n i below),
)

-- ---- of a set

pub no_bits : (I : InternerData) (n j mask : ℕ) → AddsBitsOf I n j [] mask mask
no_bits I n j mask = record { kept = λ i h. h; each = λ a m. absurd (none_in a m); come = λ i h. inl h }

-- one type more
pub one_bit : (I : InternerData) (n j : ℕ) (set : List TypeTree) (old mid new k t : ℕ) (a : TypeTree) → AddsBitsOf I n j set old mid → k < 128 → k ≡ t * n + j → t < length I.types → slice_get I.types t ≡ Some a → type_of_id I t ≡ a
    → new ≡ bit_or mid (1 * 2 ^ k % 2 ^ 128) → AddsBitsOf I n j (set ++ a ∷ []) old new
one_bit I n j set old mid new k t a h within is known at same made = record {
  kept = λ i was. on i (h.kept i was);
  each = λ b m. elim (pushed_cases set a b m) [
    | inl was ↦ let r = h.each b was in (r.0, (r.1.0, on (r.0 * n + j) r.1.1))
    | inr eq ↦ subst (λ (x : TypeTree). (u : ℕ) × ((slice_get I.types u ≡ Some x) × (bit_at new (u * n + j) ≡ 1))) (sym eq) (t, (at, subst (λ i. bit_at new i ≡ 1) is own))
  ];
  come = λ i now. elim (cases_eq i k) [
    | inl eq ↦ inr (t, (known, (Contains-append_right set (a ∷ []) (type_of_id I t) (subst (λ (x : TypeTree). Contains (a ∷ []) x) (sym same) (here a [])), eq ∙ is)))
    | inr other ↦ elim (h.come i (sym (left i other) ∙ now)) [
      | inl was ↦ inl was
      | inr (u, (lt, (m, there))) ↦ inr (u, (lt, (Contains-append_left set (a ∷ []) (type_of_id I u) m, there)))
    ]
  ];
}
  where
    own : bit_at new k ≡ 1
    own = ap (λ m. bit_at m k) made ∙ bit_at_set_same w128 mid k within

    left : (i : ℕ) → (i ≡ k → ⊥) → bit_at new i ≡ bit_at mid i
    left i other = ap (λ m. bit_at m i) made ∙ bit_at_set_other w128 mid k within i other

    on : (i : ℕ) → bit_at mid i ≡ 1 → bit_at new i ≡ 1
    on i was = elim (cases_eq i k) [
      | inl eq ↦ subst (λ m. bit_at new m ≡ 1) (sym eq) own
      | inr other ↦ left i other ∙ was
    ]

-- ---- of an environment

zero_one : (x : ℕ) → x ≡ 0 → x ≡ 1 → ⊥
zero_one x is one = absurd (omega (arith, is, one))

pub mask_none_below : (I : InternerData) (n : ℕ) (E : Env) → HasMaskBelow I n 0 E 0
mask_none_below I n E = record {
  each = λ j a lt m. absurd (omega (arith, lt));
  taken = λ t j lt on. absurd (zero_one (bit_at 0 (t * n + j)) (bit_at-zero (t * n + j)) on);
}

pub mask_more_below : (I : InternerData) (n p : ℕ) (E : Env) (set : List TypeTree) (old new : ℕ) → p < n → set_at E p ≡ set → HasMaskBelow I n p E old → AddsBitsOf I n p set old new → HasMaskBelow I n (p + 1) E new
mask_more_below I n p E set old new within is h adds = record {
  each = λ j a lt m. elim (cases_lt j p) [
    | inl low ↦ let r = h.each j a low m in (r.0, (r.1.0, adds.kept (r.0 * n + j) r.1.1))
    | inr high ↦
        let eq : j ≡ p = omega (arith, lt, high) in
        subst (λ k. (t : ℕ) × ((slice_get I.types t ≡ Some a) × (bit_at new (t * n + k) ≡ 1))) (sym eq) (adds.each a (subst (λ (s : List TypeTree). Contains s a) is (subst (λ k. Has E k a) eq m)))
  ];
  taken = λ t j lt on. elim (adds.come (t * n + j) on) [
    | inl was ↦ let r = h.taken t j lt was in (omega (arith, r.0), r.1)
    | inr (u, (known, (m, there))) ↦
        let eq = same_bit n t j u p lt within there in
        let low : j < p + 1 = omega (arith, eq.1) in
        let has : Has E j (type_of_id I t) = subst (λ k. Has E k (type_of_id I t)) (sym eq.1) (subst (λ v. Has E p (type_of_id I v)) (sym eq.0) (subst (λ (s : List TypeTree). Contains s (type_of_id I u)) (sym is) m)) in
        (low, (subst (λ v. v < length I.types) (sym eq.0) known, has))
  ];
}

pub past_none : (E : Env) (j : ℕ) (a : TypeTree) → length E ≤ j → Has E j a → ⊥
past_none [] j a le m = none_in a m
past_none (s ∷ E) zero a le m = absurd (omega (arith, le))
past_none (s ∷ E) (suc j) a le m = past_none E j a (omega (arith, le)) m

pub mask_all_below : (I : InternerData) (n p : ℕ) (E : Env) (mask : ℕ) → length E ≡ n → n ≤ p → HasMaskBelow I n p E mask → IsMask I n E mask
mask_all_below I n p E mask long past h = record {
  long = long;
  each = λ j a m. elim (cases_lt j p) [
    | inl low ↦ h.each j a low m
    | inr high ↦ absurd (past_none E j a (omega (arith, long, past, high)) m)
  ];
  taken = λ t j lt on. (h.taken t j lt on).1;
}

-- ---- what is read of an interner

module _ (f : ℕ → List TypeTree) where
  mapped_at : (ids : List ℕ) (k s : ℕ) → k < length ids → s ≡ get_or ids k s → set_at (map f ids) k ≡ f s
  mapped_at [] k s lt is = absurd (omega (arith, lt))
  mapped_at (i ∷ ids) zero s lt is = ap f (sym is)
  mapped_at (i ∷ ids) (suc k) s lt is = mapped_at ids k s (omega (arith, lt)) is

  -- the set at a parameter
  pub set_read_at : (ids : List ℕ) (E : Env) (k s : ℕ) → map f ids ≡ E → k < length ids → s ≡ get_or ids k s → set_at E k ≡ f s
  set_read_at ids E k s e lt is = sym (ap (λ (z : Env). set_at z k) e) ∙ mapped_at ids k s lt is

  pub long_as : (ids : List ℕ) (E : Env) → map f ids ≡ E → length E ≡ length ids
  long_as ids E e = ap (λ (z : Env). length z) (sym e) ∙ length-map ids f

-- ---- what is remembered

pub no_masks : (I : InternerData) (envs : List (MaskKey × ℕ)) → envs ≡ [] → AreMasks I envs
no_masks I envs f = record { found = λ k env there. absurd (none_in (k, env) (subst (λ (xs : List (MaskKey × ℕ)). Contains xs (k, env)) f there)) }

-- while the interner grows
module _ (I J : InternerData) (g : Grows I J) where
  pub mask_grows : (n mask : ℕ) (E : Env) → IsMask I n E mask → IsMask J n E mask
  mask_grows n mask E m = record {
    long = m.long;
    each = λ j a has. let r = m.each j a has in (r.0, (g.types r.0 a r.1.0, r.1.1));
    taken = λ t j lt on.
        let r = m.taken t j lt on in
        (type_within I J g t r.0, subst (λ (a : TypeTree). Has E j a) (sym (type_stays I J g t r.0)) r.1);
  }

  mask_stays : (n e mask : ℕ) → e < length I.envs → IsMask I n (env_of_id I e) mask → IsMask J n (env_of_id J e) mask
  mask_stays n e mask known m = subst (λ (E : Env). IsMask J n E mask) (sym (env_stays I J g e known)) (mask_grows n mask (env_of_id I e) m)

  pub masks_grow : (envs : List (MaskKey × ℕ)) → AreMasks I envs → AreMasks J envs
  masks_grow envs are = record {
    found = λ k e there.
        let r = are.found k e there in
        (env_within I J g e r.0, mask_stays k.count e k.mask r.0 r.1);
  }
