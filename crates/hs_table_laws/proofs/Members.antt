-- Members of lists that are made of lists.
use Rattle.std.proofs.Common.{◌≡◌, sym, ◌∙◌, ap, subst, ℕ, zero, suc, ◌+◌, ◌<◌, List, [], ◌∷◌, ◌++◌, length, get_or, take, map, arith, Contains, ◌⊎◌, inl, inr}
use Rattle.std.proofs.lemmas.List.Elements.{Contains-append_cases}
use Rattle.hs_scheme.proofs.Lists.{none_in, here, later, uncons, only}

-- a member from which y comes
pub record Preimage {X Y : Type 0} (f : X → Y) (xs : List X) (y : Y) : Type 0 where
  pub item : X
  pub there : Contains xs item
  pub is : y ≡ f item

pub from_map : {X Y : Type 0} (f : X → Y) (xs : List X) (y : Y) → Contains (map f xs) y → Preimage f xs y
from_map f [] y c = absurd (none_in y c)
from_map f (x ∷ xs) y c = elim (uncons (f x) y (map f xs) c) [
  | inl e ↦ record { item = x; there = here x xs; is = e }
  | inr h ↦ let r = from_map f xs y h in record { item = r.item; there = later x r.item xs r.there; is = r.is }
]

pub into_map : {X Y : Type 0} (f : X → Y) (xs : List X) (x : X) → Contains xs x → Contains (map f xs) (f x)
into_map f [] x c = absurd (none_in x c)
into_map f (z ∷ xs) x c = elim (uncons z x xs c) [
  | inl e ↦ subst (λ w. Contains (f z ∷ map f xs) (f w)) (sym e) (here (f z) (map f xs))
  | inr there ↦ later (f z) (f x) (map f xs) (into_map f xs x there)
]

-- one more element
take_next : {X : Type 0} (xs : List X) (k : ℕ) (y : X) → k < length xs → y ≡ get_or xs k y → take (suc k) xs ≡ take k xs ++ y ∷ []
take_next [] k y lt is = absurd (omega arith)
take_next (x ∷ xs) zero y lt is = ap (λ z. z ∷ []) (sym is)
take_next (x ∷ xs) (suc k) y lt is = ap (λ zs. x ∷ zs) (take_next xs k y (omega arith) is)

pub taken_next : {X : Type 0} (xs : List X) (k : ℕ) (y : X) → k < length xs → y ≡ get_or xs k y → take (k + 1) xs ≡ take k xs ++ y ∷ []
taken_next xs k y lt is = let e : k + 1 ≡ suc k = omega arith in ap (λ n. take n xs) e ∙ take_next xs k y lt is

pub pushed_cases : {X : Type 0} (xs : List X) (y x : X) → Contains (xs ++ y ∷ []) x → Contains xs x ⊎ (x ≡ y)
pushed_cases xs y x c = elim (Contains-append_cases xs (y ∷ []) x c) [
  | inl was ↦ inl was
  | inr last ↦ inr (only y x last)
]
