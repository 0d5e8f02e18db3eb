-- What stands where in a list that was lengthened or changed at a place.
use Rattle.std.proofs.Common.{◌≡◌, ◌≢◌, refl, ap, ℕ, zero, suc, ◌<◌, List, [], ◌∷◌, length, set, slice_get, replicate, Some, arith}

pub get_replicate : {A : Type 0} (n i : ℕ) (y x : A) → slice_get (replicate n y) i ≡ Some x → x ≡ y
get_replicate zero i y x h = absurd (cc)
get_replicate (suc n) zero y x h = cc
get_replicate (suc n) (suc i) y x h = get_replicate n i y x h

pub get_set_same : {A : Type 0} (xs : List A) (i : ℕ) (y : A) → i < length xs → slice_get (set xs i y) i ≡ Some y
get_set_same [] i y h = absurd (omega arith)
get_set_same (x ∷ xs) zero y h = refl
get_set_same (x ∷ xs) (suc i) y h = get_set_same xs i y (omega arith)

pub get_set_other : {A : Type 0} (xs : List A) (i j : ℕ) (y : A) → j ≢ i → slice_get (set xs i y) j ≡ slice_get xs j
get_set_other [] i j y h = refl
get_set_other (x ∷ xs) zero zero y h = absurd (h refl)
get_set_other (x ∷ xs) zero (suc j) y h = refl
get_set_other (x ∷ xs) (suc i) zero y h = refl
get_set_other (x ∷ xs) (suc i) (suc j) y h = get_set_other xs i j y (λ e. h (ap suc e))

pub get_of_replicate : {A : Type 0} (n i : ℕ) (y : A) → i < n → slice_get (replicate n y) i ≡ Some y
get_of_replicate zero i y h = absurd (omega arith)
get_of_replicate (suc n) zero y h = refl
get_of_replicate (suc n) (suc i) y h = get_of_replicate n i y (omega arith)
