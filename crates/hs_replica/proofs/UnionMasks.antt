-- Masks of unions.
use Rattle.std.proofs.Common.{◌≡◌, ◌∙◌, ap, subst, ℕ, ◌+◌, ◌*◌, ◌<◌, length, max, ◌⊎◌, inl, inr, slice_get, Some, arith}
use Rattle.std.specs.Int.{bit_at}
use Rattle.std.proofs.lemmas.Bool.{cases_lt, cases_eq}
use Rattle.std.proofs.lemmas.Nat.Bits.{bit_at-lt, bit_at_or}
use Rattle.std.proofs.lemmas.Option.{get_or_from_slice_get}
use Rattle.hs_table.specs.Types.{TypeTree, state, IsSet}
use Rattle.hs_table.specs.Entries.{Env, Has, set_at}
use Rattle.hs_types.specs.Interned.{InternerData, type_of_id, IsUnionEnv}
use Rattle.hs_replica.specs.Masks.{IsMask, IsUnionMask}
use Rattle.hs_replica.proofs.MaskLemmas.{past_none}

in_either : (x y z : ℕ) → x < 2 → y < 2 → z ≡ max x y → z ≡ 1 → (x ≡ 1) ⊎ (y ≡ 1)
in_either x y z low high is one = elim (cases_eq x 1) [
  | inl first ↦ inl first
  | inr other ↦ inr (omega (arith, low, high, is, one, other))
]

in_first : (x y z : ℕ) → y < 2 → z ≡ max x y → x ≡ 1 → z ≡ 1
in_first x y z high is one = omega (arith, high, is, one)

in_second : (x y z : ℕ) → x < 2 → z ≡ max x y → y ≡ 1 → z ≡ 1
in_second x y z low is one = omega (arith, low, is, one)

module _ (I : InternerData) (E F U : Env) (mask : ℕ) (u : IsUnionMask I E F mask) where
  bit_is : (i : ℕ) → bit_at mask i ≡ max (bit_at u.own i) (bit_at u.other i)
  bit_is i = ap (λ m. bit_at m i) u.united ∙ bit_at_or u.own u.other i

  from : (i : ℕ) → bit_at mask i ≡ 1 → (bit_at u.own i ≡ 1) ⊎ (bit_at u.other i ≡ 1)
  from i on = in_either (bit_at u.own i) (bit_at u.other i) (bit_at mask i) (bit_at-lt u.own i) (bit_at-lt u.other i) (bit_is i) on

  first : (i : ℕ) → bit_at u.own i ≡ 1 → bit_at mask i ≡ 1
  first i on = in_first (bit_at u.own i) (bit_at u.other i) (bit_at mask i) (bit_at-lt u.other i) (bit_is i) on

  second : (i : ℕ) → bit_at u.other i ≡ 1 → bit_at mask i ≡ 1
  second i on = in_second (bit_at u.own i) (bit_at u.other i) (bit_at mask i) (bit_at-lt u.own i) (bit_is i) on

  type_at : (t : ℕ) (a : TypeTree) → slice_get I.types t ≡ Some a → type_of_id I t ≡ a
  type_at t a at = get_or_from_slice_get I.types t a (state 0) at

  within : (G : Env) (j : ℕ) (a : TypeTree) → length G ≡ length E → Has G j a → j < length E
  within G j a long has = elim (cases_lt j (length E)) [
    | inl low ↦ low
    | inr high ↦ absurd (past_none G j a (omega (arith, long, high)) has)
  ]

  -- an environment with this mask is the union
  pub union_of_mask : ((j : ℕ) → IsSet (set_at U j)) → IsMask I (length E) U mask → IsUnionEnv E F U
  union_of_mask up m = record { long = m.long; sets = λ j. record { ascends = up j; exact = λ a. (forth j a, back j a) } }
    where
      forth : (j : ℕ) (a : TypeTree) → Has U j a → Has E j a ⊎ Has F j a
      forth j a has =
          let r = m.each j a has in
          let lt = within U j a m.long has in
          let is = type_at r.0 a r.1.0 in
          elim (from (r.0 * length E + j) r.1.1) [
            | inl on ↦ inl (subst (λ (b : TypeTree). Has E j b) is (u.of_own.taken r.0 j lt on).1)
            | inr on ↦ inr (subst (λ (b : TypeTree). Has F j b) is (u.of_other.taken r.0 j lt on).1)
          ]

      back : (j : ℕ) (a : TypeTree) → Has E j a ⊎ Has F j a → Has U j a
      back j a (inl has) =
          let r = u.of_own.each j a has in
          subst (λ (b : TypeTree). Has U j b) (type_at r.0 a r.1.0) (m.taken r.0 j (within E j a u.of_own.long has) (first (r.0 * length E + j) r.1.1)).1
      back j a (inr has) =
          let r = u.of_other.each j a has in
          subst (λ (b : TypeTree). Has U j b) (type_at r.0 a r.1.0) (m.taken r.0 j (within F j a u.of_other.long has) (second (r.0 * length E + j) r.1.1)).1

  -- the union has this mask
  pub mask_of_union : IsUnionEnv E F U → IsMask I (length E) U mask
  mask_of_union is = record {
    long = is.long;
    each = λ j a has. elim (((is.sets j).exact a).0 has) [
      | inl own ↦ let r = u.of_own.each j a own in (r.0, (r.1.0, first (r.0 * length E + j) r.1.1))
      | inr other ↦ let r = u.of_other.each j a other in (r.0, (r.1.0, second (r.0 * length E + j) r.1.1))
    ];
    taken = λ t j lt on. elim (from (t * length E + j) on) [
      | inl own ↦ let r = u.of_own.taken t j lt own in (r.0, ((is.sets j).exact (type_of_id I t)).1 (inl r.1))
      | inr other ↦ let r = u.of_other.taken t j lt other in (r.0, ((is.sets j).exact (type_of_id I t)).1 (inr r.1))
    ];
  }
