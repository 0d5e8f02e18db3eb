-- What holds of the items of a list so far, and of all.
use Rattle.std.proofs.Common.{◌≡◌, refl, sym, subst, ℕ, zero, suc, ◌+◌, ◌<◌, ◌≤◌, List, [], ◌∷◌, length, map, take, get_or, Contains, inl, inr, Result, Ok, Err, OnOk, arith}
use Rattle.hs_scheme.proofs.Lists.{none_in, later, uncons}
use Rattle.hs_table_laws.proofs.Members.{from_map, taken_next, pushed_cases}

-- one more item
pub each_more : {X : Type 0} (P : X → Type 0) (xs : List X) (k : ℕ) (x : X) → k < length xs → x ≡ get_or xs k x → ((y : X) → Contains (take k xs) y → P y) → P x → (y : X) → Contains (take (k + 1) xs) y → P y
each_more {X = X} P xs k x lt is f h y m = elim (pushed_cases (take k xs) x y (subst (λ (zs : List X). Contains zs y) (taken_next xs k x lt is) m)) [
  | inl was ↦ f y was
  | inr e ↦ subst P (sym e) h
]

pub each_all : {X : Type 0} (P : X → Type 0) (xs : List X) (k : ℕ) → length xs ≤ k → ((y : X) → Contains (take k xs) y → P y) → (y : X) → Contains xs y → P y
each_all P [] k le f y m = absurd (none_in y m)
each_all P (z ∷ xs) zero le f y m = absurd (omega (arith, le))
each_all P (z ∷ xs) (suc k) le f y m = elim (uncons z y xs m) [
  | inl e ↦ f y (subst (λ w. Contains (z ∷ take k xs) w) (sym e) (0, omega arith, refl))
  | inr there ↦ each_all P xs k (omega (arith, le)) (λ w n. f w (later z w (take k xs) n)) y there
]

-- what holds of the items holds of what they stand for
pub each_mapped : {X Y : Type 0} (f : X → Y) (P : Y → Type 0) (xs : List X) (ys : List Y) → map f xs ≡ ys → ((x : X) → Contains xs x → P (f x)) → (y : Y) → Contains ys y → P y
each_mapped {Y = Y} f P xs ys e h y m =
    let from = from_map f xs y (subst (λ (zs : List Y). Contains zs y) (sym e) m) in
    subst P (sym from.is) (h from.item from.there)

pub on_ok : {A E : Type 0} (r : Result A E) (P : Type 0) → P → OnOk r P
on_ok (Ok a) P p = p
on_ok (Err e) P p = tt
