-- Kinds of types, as bits of a number.
use Rattle.std.proofs.Common.{◌≡◌, refl, sym, ◌∙◌, ap, subst, ℕ, zero, suc, ◌+◌, ◌*◌, ◌^◌, ◌%◌, ◌<◌, ◌≤◌, List, [], ◌∷◌, ◌++◌, length, min, Contains, inl, inr, arith}
use Rattle.std.specs.Int.{bit_at, w64}
use Rattle.std.specs.Int.RustNames.{bit_and, bit_or}
use Rattle.std.proofs.lemmas.Bool.{cases_lt, cases_eq}
use Rattle.std.proofs.lemmas.Nat.Bits.{bit_at-zero, bit_at-lt, bit_at_and, bit_at_set_same, bit_at_set_other, same_from_bits}
use Rattle.std.proofs.lemmas.List.Elements.{Contains-append_left, Contains-append_right}
use Rattle.hs_scheme.proofs.Lists.{none_in, here}
use Rattle.hs_table.specs.Types.{TypeTree}
use Rattle.hs_table.specs.Entries.{Env, Has, set_at}
use Rattle.hs_table_laws.proofs.Members.{pushed_cases}
use Rattle.hs_weak.specs.Reads.{last_state}
use Rattle.hs_weak.specs.Strength.{AsStrongAs, AsksEach, AsksAtLeast}
use Rattle.hs_strength.specs.Kinds.{kind_of, HasKinds, AddsKinds}
use Rattle.hs_strength.proofs.LastStates.{strong_last}

-- ---- of a set

pub no_kinds : (j n : ℕ) → AddsKinds [] j n n
no_kinds j n = record { kept = λ i h. h; each = λ a m. absurd (none_in a m); come = λ i h. inl h }

-- one type more
pub one_kind : (set : List TypeTree) (j old mid new k : ℕ) (a : TypeTree) → AddsKinds set j old mid → k < 64 → k ≡ kind_of j (last_state a) → new ≡ bit_or mid (1 * 2 ^ k % 2 ^ 64) → AddsKinds (set ++ a ∷ []) j old new
one_kind set j old mid new k a h within is made = record {
  kept = λ i was. on i (h.kept i was);
  each = λ b m. elim (pushed_cases set a b m) [
    | inl was ↦ on (kind_of j (last_state b)) (h.each b was)
    | inr same ↦ subst (λ (x : TypeTree). bit_at new (kind_of j (last_state x)) ≡ 1) (sym same) (subst (λ i. bit_at new i ≡ 1) is own)
  ];
  come = λ i now. elim (cases_eq i k) [
    | inl same ↦ inr (a, (Contains-append_right set (a ∷ []) a (here a []), sym is ∙ sym same))
    | inr other ↦ elim (h.come i (sym (left i other) ∙ now)) [
      | inl was ↦ inl was
      | inr (b, (m, at)) ↦ inr (b, (Contains-append_left set (a ∷ []) b m, at))
    ]
  ];
}
  where
    own : bit_at new k ≡ 1
    own = ap (λ n. bit_at n k) made ∙ bit_at_set_same w64 mid k within

    left : (i : ℕ) → (i ≡ k → ⊥) → bit_at new i ≡ bit_at mid i
    left i other = ap (λ n. bit_at n i) made ∙ bit_at_set_other w64 mid k within i other

    on : (i : ℕ) → bit_at mid i ≡ 1 → bit_at new i ≡ 1
    on i was = elim (cases_eq i k) [
      | inl same ↦ subst (λ m. bit_at new m ≡ 1) (sym same) own
      | inr other ↦ left i other ∙ was
    ]

-- ---- of an environment

-- so far
pub record HasKindsBelow (p : ℕ) (E : Env) (kinds : ℕ) : Type 0 where
  pub each : (j : ℕ) (a : TypeTree) → j < p → Has E j a → bit_at kinds (kind_of j (last_state a)) ≡ 1
  pub taken : (i : ℕ) → bit_at kinds i ≡ 1 → (j : ℕ) × ((a : TypeTree) × (Has E j a × (kind_of j (last_state a) ≡ i)))

zero_one : (x y : ℕ) → x ≡ 0 → y ≡ x → y ≡ 1 → ⊥
zero_one x y is same one = absurd (omega (arith, is, same, one))

pub none_below : (E : Env) → HasKindsBelow 0 E 0
none_below E = record {
  each = λ j a lt m. absurd (omega (arith, lt));
  taken = λ i on. absurd (zero_one (bit_at 0 i) (bit_at 0 i) (bit_at-zero i) refl on);
}

pub one_more_below : (E : Env) (p : ℕ) (set : List TypeTree) (old new : ℕ) → set_at E p ≡ set → HasKindsBelow p E old → AddsKinds set p old new → HasKindsBelow (p + 1) E new
one_more_below E p set old new is h adds = record {
  each = λ j a lt m. elim (cases_lt j p) [
    | inl low ↦ adds.kept (kind_of j (last_state a)) (h.each j a low m)
    | inr high ↦
        let same : j ≡ p = omega (arith, lt, high) in
        subst (λ k. bit_at new (kind_of k (last_state a)) ≡ 1) (sym same) (adds.each a (subst (λ (s : List TypeTree). Contains s a) is (subst (λ k. Has E k a) same m)))
  ];
  taken = λ i on. elim (adds.come i on) [
    | inl was ↦ h.taken i was
    | inr (a, (m, at)) ↦ (p, (a, (subst (λ (s : List TypeTree). Contains s a) (sym is) m, at)))
  ];
}

past_none : (E : Env) (j : ℕ) (a : TypeTree) → length E ≤ j → Has E j a → ⊥
past_none [] j a le m = none_in a m
past_none (s ∷ E) zero a le m = absurd (omega (arith, le))
past_none (s ∷ E) (suc j) a le m = past_none E j a (omega (arith, le)) m

pub all_below : (E : Env) (p kinds : ℕ) → length E ≤ p → HasKindsBelow p E kinds → HasKinds E kinds
all_below E p kinds past h = record {
  each = λ j a m. elim (cases_lt j p) [
    | inl low ↦ h.each j a low m
    | inr high ↦ absurd (past_none E j a (omega (arith, past, high)) m)
  ];
  taken = h.taken;
}

-- where each set asks for each of its types
pub all_asked : (E : Env) (p : ℕ) → length E ≤ p → ((j : ℕ) → j < p → AsksEach AsStrongAs (set_at E j) (set_at E j)) → AsksAtLeast AsStrongAs E E
all_asked E p past seen j a m = elim (cases_lt j p) [
  | inl low ↦ seen j low a m
  | inr high ↦ absurd (past_none E j a (omega (arith, past, high)) m)
]

-- ---- what asks at least what another asks has all its kinds

least_zero : (x y z : ℕ) → z ≡ min x y → x < 1 → z ≡ x
least_zero x y z is low = omega (arith, is, low)

least_one : (x y z : ℕ) → z ≡ min x y → x < 2 → 1 ≤ x → y ≡ 1 → z ≡ x
least_one x y z is low high one = omega (arith, is, low, high, one)

pub asks_kinds : (E B : Env) (own asked : ℕ) → HasKinds E own → HasKinds B asked → AsksAtLeast AsStrongAs E B → bit_and asked own ≡ asked
asks_kinds E B own asked has of asks = same_from_bits (bit_and asked own) asked each
  where
    there : (i : ℕ) → bit_at asked i ≡ 1 → bit_at own i ≡ 1
    there i on =
        let from = of.taken i on in
        let strong = asks from.0 from.1.0 from.1.1.0 in
        let same = ap (λ q. kind_of from.0 q) (strong_last strong.1.1) ∙ from.1.1.1 in
        subst (λ k. bit_at own k ≡ 1) same (has.each from.0 strong.0 strong.1.0)

    one_of : (x : ℕ) → x < 2 → 1 ≤ x → x ≡ 1
    one_of x lt le = omega (arith, lt, le)

    each : (i : ℕ) → bit_at (bit_and asked own) i ≡ bit_at asked i
    each i = elim (cases_lt (bit_at asked i) 1) [
      | inl low ↦ least_zero (bit_at asked i) (bit_at own i) (bit_at (bit_and asked own) i) (bit_at_and asked own i) low
      | inr high ↦
          let one : bit_at asked i ≡ 1 = one_of (bit_at asked i) (bit_at-lt asked i) high in
          least_one (bit_at asked i) (bit_at own i) (bit_at (bit_and asked own) i) (bit_at_and asked own i) (bit_at-lt asked i) high (there i one)
    ]
