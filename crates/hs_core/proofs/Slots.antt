-- Works under tickets, counted; and lists by their places.
use Rattle.std.proofs.Common.{◌≡◌, refl, ◌∙◌, ap, ℕ, zero, suc, ◌+◌, List, [], ◌∷◌, ◌++◌, take, slice_get, get_or, Option, Some, None, is_some, count_by, cond, false, arith}
use Rattle.std.proofs.lemmas.List.Sums.{sum_by-cons}
use Rattle.std.proofs.lemmas.List.{take_more}
use Rattle.std.proofs.lemmas.Option.{get_or_from_slice_get}
use Rattle.hs_table_laws.proofs.Places.{within_from}

module _ {X : Type 0} where
  count_by-cons : (o : Option X) (xs : List (Option X)) → count_by is_some (o ∷ xs) ≡ cond (is_some o) 1 0 + count_by is_some xs
  count_by-cons o xs = sum_by-cons (λ (p : Option X). cond (is_some p) 1 0) o xs

  -- where none is counted, nothing is there
  pub none_there : (xs : List (Option X)) (k : ℕ) → count_by is_some xs ≡ 0 → get_or xs k None ≡ None
  none_there [] k e = refl
  none_there (None ∷ xs) zero e = refl
  none_there (None ∷ xs) (suc k) e = none_there xs k (omega (arith, count_by-cons None xs))
  none_there (Some x ∷ xs) k e = absurd (omega (arith, count_by-cons (Some x) xs))

  -- else something is
  pub some_there : (xs : List (Option X)) → (count_by is_some xs ≡ 0 → ⊥) → (k : ℕ) × (x : X) × (get_or xs k None ≡ Some x)
  some_there [] h = absurd (h refl)
  some_there (None ∷ xs) h = let r = some_there xs (λ e. h (omega (arith, count_by-cons None xs))) in (suc r.0, r.1, r.2)
  some_there (Some x ∷ xs) h = (zero, x, refl)

  pub none_counted : (xs : List (Option X)) → ((k : ℕ) → get_or xs k None ≡ None) → count_by is_some xs ≡ 0
  none_counted [] h = refl
  none_counted (None ∷ xs) h = omega (arith, count_by-cons None xs, none_counted xs (λ k. h (suc k)))
  none_counted (Some x ∷ xs) h = absurd (let e : Some x ≡ None = h zero in cc)

  pub not_some : (o : Option X) → is_some o ≡ false → o ≡ None
  not_some None e = refl
  not_some (Some x) e = absurd (cc)

  -- one more item
  pub taken_at : (xs : List X) (i : ℕ) (x : X) → slice_get xs i ≡ Some x → take (i + 1) xs ≡ take i xs ++ x ∷ []
  taken_at xs i x at = take_more xs i x (within_from xs i x at) ∙ ap (λ y. take i xs ++ y ∷ []) (get_or_from_slice_get xs i x x at)
