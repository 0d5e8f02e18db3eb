-- The first number of an ascending list that isn't below another.
use Rattle.std.proofs.Common.{◌≡◌, ap, subst, ℕ, ◌<◌, ◌≤◌, true, false, List, length, get_or, Option, Some, None, IfNone, arith, ltb, inl, inr, Contains}
use Rattle.std.specs.List.Sorted.{IsStrictlyIncreasing, IsNonDecreasingBy, IsPartitionPoint}
use Rattle.std.proofs.lemmas.Bool.{cases_lt, ltb-true, ltb-false}
use Rattle.std.proofs.lemmas.List.Kept.{AllPairs-from_increasing}
use Rattle.std.proofs.lemmas.List.{get_or_default}
use Rattle.std.proofs.lemmas.List.Elements.{Contains-get_or}

pub rises_by : (xs : List ℕ) → IsStrictlyIncreasing xs → IsNonDecreasingBy (λ x. x) xs
rises_by xs up i j d le lt = elim (cases_lt i j) [
  | inl less ↦ let e = AllPairs-from_increasing xs up i j d less lt in omega (arith, e)
  | inr ge ↦ let same : i ≡ j = omega arith in let e = ap (λ k. get_or xs k d) same in omega (arith, e)
]

module _ (xs : List ℕ) (from n : ℕ) (point : IsPartitionPoint (λ y. ltb y from ≡ true) (λ y. ltb y from ≡ false) xs n) where
  before : (k : ℕ) (d : ℕ) → k < n → k < length xs → get_or xs k d < from
  before k d lt within = ltb-true (get_or xs k d) from (point.0 k d (omega arith) lt)

  behind : (k : ℕ) (d : ℕ) → n ≤ k → k < length xs → from ≤ get_or xs k d
  behind k d le lt = ltb-false (get_or xs k d) from (point.1 k d le lt)

  pub none_from : length xs ≤ n → (i : ℕ) → Contains xs i → i < from
  none_from long i h = let lt = before h.0 i (omega (arith, h.1, long)) h.1 in subst (λ k. k < from) h.2 lt

  module _ (within : n < length xs) where
    pub there_from : (from ≤ get_or xs n 0) × Contains xs (get_or xs n 0)
    there_from = (behind n 0 (omega arith) within, Contains-get_or xs n 0 within)

    pub first_of : IsStrictlyIncreasing xs → (i : ℕ) → Contains xs i → from ≤ i → get_or xs n 0 ≤ i
    first_of up i h le = elim (cases_lt h.0 n) [
      | inl less ↦ let lt = before h.0 i less h.1 in absurd (omega (arith, lt, h.2, le))
      | inr ge ↦ let least = rises_by xs up n h.0 0 ge h.1 in omega (arith, least, get_or_default xs h.0 0 i h.1, h.2)
    ]

-- what is said where there is no value
pub none_then : {X : Type 0} (o : Option X) {P Q : Type 0} → IfNone o P → (P → Q) → IfNone o Q
none_then None p f = f p
none_then (Some x) p f = tt
