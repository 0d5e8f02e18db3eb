-- A list that is gone through from its front.
use Rattle.std.proofs.Common.{◌≡◌, ◌∙◌, ap, subst, ℕ, ◌+◌, ◌<◌, ◌≤◌, List, length, get_or, All, arith, inl, inr}
use Rattle.std.proofs.lemmas.Bool.{cases_lt}
use Rattle.std.proofs.lemmas.List.{get_or_default}

-- so it is for the first n of them
abbrev pub SoFar : {X : Type 0} → (X → Type 0) → List X → ℕ → Type 0
SoFar {X} P xs n = (k : ℕ) (d : X) → k < n → P (get_or xs k d)

module _ {X : Type 0} (P : X → Type 0) (xs : List X) where
  pub one_more : (n : ℕ) (x : X) → n < length xs → x ≡ get_or xs n x → SoFar P xs n → P x → SoFar P xs (n + 1)
  one_more n x below is before h k d lt = elim (cases_lt k n) [
    | inl less ↦ before k d less
    | inr more ↦
        let same : n ≡ k = omega arith in
        subst P (is ∙ get_or_default xs n x d below ∙ ap (λ i. get_or xs i d) same) h
  ]

  pub all_of_them : (n : ℕ) → length xs ≤ n → SoFar P xs n → All P xs
  all_of_them n le before k d lt = before k d (omega (arith, le, lt))
