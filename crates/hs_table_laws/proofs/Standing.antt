-- A list that stands in another from a place on.
use Rattle.std.proofs.Common.{◌≡◌, refl, sym, ◌∙◌, ap, ℕ, suc, ◌+◌, List, ◌∷◌, ◌++◌, length, slice_get, Some, arith}
use Rattle.hs_scheme.proofs.Lists.{at_append, back_at}

-- ys stands in xs from n on
pub record StandsFrom {A : Type 0} (xs : List A) (n : ℕ) (ys : List A) : Type 0 where
  pub at : (i : ℕ) (y : A) → slice_get ys i ≡ Some y → slice_get xs (n + i) ≡ Some y

pub stands_front : {A : Type 0} (all : List A) (n : ℕ) (xs ys : List A) → StandsFrom all n (xs ++ ys) → StandsFrom all n xs
stands_front all n xs ys s = record { at = λ i y e. s.at i y (at_append xs ys i y e) }

pub stands_back : {A : Type 0} (all : List A) (n m : ℕ) (xs ys : List A) → length xs ≡ m → StandsFrom all n (xs ++ ys) → StandsFrom all (n + m) ys
stands_back all n m xs ys long s = record {
  at = λ i y e.
      let same : n + (length xs + i) ≡ n + m + i = omega (arith, long) in
      ap (λ k. slice_get all k) (sym same) ∙ s.at (length xs + i) y (back_at xs ys i ∙ e);
}

pub stands_tail : {A : Type 0} (all : List A) (n : ℕ) (x : A) (xs : List A) → StandsFrom all n (x ∷ xs) → StandsFrom all (n + 1) xs
stands_tail all n x xs s = record { at = λ i y e. let same : n + suc i ≡ n + 1 + i = omega arith in ap (λ k. slice_get all k) (sym same) ∙ s.at (suc i) y e }

pub stands_head : {A : Type 0} (all : List A) (n : ℕ) (x : A) (xs : List A) → StandsFrom all n (x ∷ xs) → slice_get all n ≡ Some x
stands_head all n x xs s = let same : n + 0 ≡ n = omega arith in ap (λ k. slice_get all k) (sym same) ∙ s.at 0 x refl
