-- Lists that grow, and what holds of more and more of a list.
use Rattle.std.proofs.Common.{◌≡◌, sym, ◌∙◌, subst, ℕ, zero, suc, ◌+◌, ◌-◌, ◌<◌, ◌≤◌, drop, List, [], ◌∷◌, length, get_or, take, slice_get, Option, Some, Contains, inl, inr, Result, Ok, Err, arith}
use Rattle.std.specs.Prelude.{OnOk}
use Rattle.std.proofs.lemmas.Bool.{cases_lt}
use Rattle.std.proofs.lemmas.Option.{same_Some, slice_get-get_or}
use Rattle.hs_scheme.proofs.Lists.{Contains-at, some_at, read-slice_get}
use Rattle.hs_table_laws.proofs.Places.{place_of, within_from, to_take, fewer}
use Rattle.hs_table_laws.proofs.Members.{taken_next, pushed_cases}
use Rattle.hs_reads.specs.Growing.{Grows, AddsOnly}
use Rattle.hs_reads.specs.Own.{AreMany}

pub grows_same : {X : Type 0} (xs : List X) → Grows xs xs
grows_same xs = record { kept = λ k x e. e; few = λ f. f }

pub grows_then : {X : Type 0} (xs ys zs : List X) → Grows xs ys → Grows ys zs → Grows xs zs
grows_then xs ys zs g h = record { kept = λ k x e. h.kept k x (g.kept k x e); few = λ f. h.few (g.few f) }

pub grows_has : {X : Type 0} (xs ys : List X) (x : X) → Grows xs ys → Contains xs x → Contains ys x
grows_has xs ys x g m = let p = place_of xs x m in Contains-at ys p.0 x (g.kept p.0 x p.1)

-- what holds of those taken holds of one more
pub one_more : {X : Type 0} (P : X → Type 0) (xs : List X) (k : ℕ) (x : X) → k < length xs → x ≡ get_or xs k x → ((y : X) → Contains (take k xs) y → P y) → P x → (y : X) → Contains (take (k + 1) xs) y → P y
one_more P xs k x lt is so_far now y m = elim (pushed_cases (take k xs) x y (subst (λ ys. Contains ys y) (taken_next xs k x lt is) m)) [
  | inl was ↦ so_far y was
  | inr same ↦ subst P (sym same) now
]

-- of places in a list that grows
pub one_place_more : {X : Type 0} (P : X → Type 0) (old new : List X) (k : ℕ) (x : X) → Grows old new → slice_get old k ≡ Some x → ((i : ℕ) (y : X) → i < k → slice_get old i ≡ Some y → P y) → P x
    → (i : ℕ) (y : X) → i < k + 1 → slice_get new i ≡ Some y → P y
one_place_more P old new k x g at so_far now i y lt e =
    let within = within_from old k x at in
    let there = some_at old i (omega (arith, within)) in
    let same : there.0 ≡ y = same_at new i there.0 y (g.kept i there.0 there.1) e in
    elim (cases_lt i k) [
      | inl before ↦ so_far i y before (subst (λ z. slice_get old i ≡ Some z) same there.1)
      | inr after ↦ let i_is : k ≡ i = omega (arith, lt, after) in
          subst P (same_at new i x y (subst (λ n. slice_get new n ≡ Some x) i_is (g.kept k x at)) e) now
    ]
  where
    same_at : {X : Type 0} (xs : List X) (i : ℕ) (x y : X) → slice_get xs i ≡ Some x → slice_get xs i ≡ Some y → x ≡ y
    same_at xs i x y a b = same_Some x y (sym a ∙ b)

-- of all places, where as many were taken
pub taken_all : {X : Type 0} (xs : List X) (n : ℕ) (x : X) → length xs ≤ n → Contains xs x → Contains (take n xs) x
taken_all xs n x le m = let p = place_of xs x m in Contains-at (take n xs) p.0 x (to_take n xs p.0 x (omega (arith, within_from xs p.0 x p.1, le)) p.1)

pub both_ok : {P Q R : Type 0} {A E : Type 0} (r : Result A E) → (P → Q → R) → OnOk r P → OnOk r Q → OnOk r R
both_ok (Ok a) f p q = f p q
both_ok (Err e) f p q = tt

-- what is read at a place
pub read_own : {X : Type 0} (xs : List X) (k : ℕ) (d : X) → k < length xs → get_or xs k d ≡ get_or xs k (get_or xs k d)
read_own xs k d lt = sym (read-slice_get xs k (get_or xs k d) (slice_get-get_or xs k d lt)).1

-- the item that is read of those that are left
pub next_more : {X : Type 0} (P : X → Type 0) (xs : List X) (k : ℕ) (d : X) → k < length xs → ((y : X) → Contains (take k xs) y → P y) → P (get_or xs k d) → (y : X) → Contains (take (k + 1) xs) y → P y
next_more P xs k d lt so_far now = one_more P xs k (get_or xs k d) lt (read_own xs k d lt) so_far now

-- behind the first n
pub at_drop : {X : Type 0} (xs : List X) (n j : ℕ) (x : X) → slice_get xs (n + j) ≡ Some x → slice_get (drop n xs) j ≡ Some x
at_drop xs zero j x e = let z : 0 + j ≡ j = omega arith in subst (λ k. slice_get xs k ≡ Some x) z e
at_drop [] (suc n) j x e = absurd (cc)
at_drop (y ∷ xs) (suc n) j x e = let z : suc n + j ≡ suc (n + j) = omega arith in at_drop xs n j x (subst (λ k. slice_get (y ∷ xs) k ≡ Some x) z e)

-- nothing is left
pub past_end : {X : Type 0} (o : Option X) (xs : List X) (k : ℕ) → o ≡ slice_get xs k → ((x : X) → o ≡ Some x → ⊥) → length xs ≤ k
past_end o xs k is never = elim (cases_lt k (length xs)) [
  | inl less ↦ let there = some_at xs k less in absurd (never there.0 (is ∙ there.1))
  | inr more ↦ more
]

pub grows_long : {X : Type 0} (xs ys : List X) → Grows xs ys → length xs ≤ length ys
grows_long xs ys g = elim (cases_lt 0 (length xs)) [
  | inl some ↦ let last = some_at xs (length xs - 1) (omega (arith, some)) in
      let there = within_from ys (length xs - 1) last.0 (g.kept (length xs - 1) last.0 last.1) in omega (arith, some, there)
  | inr none ↦ omega (arith, none)
]

-- ---- what is new

pub adds_none : {X : Type 0} (P : X → Type 0) (xs : List X) → AddsOnly P xs xs
adds_none P xs x m = inl m

pub adds_more : {X : Type 0} (P R : X → Type 0) (xs ys zs : List X) → AddsOnly R xs ys → AddsOnly P ys zs → ((x : X) → P x → R x) → AddsOnly R xs zs
adds_more P R xs ys zs f g to x m = elim (g x m) [
  | inl was ↦ f x was
  | inr new ↦ inr (to x new)
]

pub adds_such : {X : Type 0} (P R : X → Type 0) (xs ys : List X) → AddsOnly P xs ys → ((x : X) → P x → R x) → AddsOnly R xs ys
adds_such P R xs ys f to x m = elim (f x m) [
  | inl was ↦ inl was
  | inr new ↦ inr (to x new)
]

-- what holds of all that were there, and of all that are new
pub adds_all : {X : Type 0} (P R : X → Type 0) (xs ys : List X) → AddsOnly R xs ys → ((x : X) → Contains xs x → P x) → ((x : X) → R x → P x) → (x : X) → Contains ys x → P x
adds_all P R xs ys f was new x m = elim (f x m) [
  | inl h ↦ was x h
  | inr h ↦ new x h
]

-- a list of 4,000,000 at most has all that are such
pub not_many : {X : Type 0} (P : X → Type 0) (xs : List X) → length xs ≤ 4000000 → ((x : X) → P x → Contains xs x) → AreMany P → ⊥
not_many P xs few all many = let le = fewer many.these xs many.distinct (λ x m. all x (many.each x m)) in let lt = many.many in omega (arith, few, le, lt)

-- what stands in front of a place
pub from_drop : {X : Type 0} (xs : List X) (n j : ℕ) (x : X) → slice_get (drop n xs) j ≡ Some x → slice_get xs (n + j) ≡ Some x
from_drop xs zero j x e = let z : j ≡ 0 + j = omega arith in subst (λ k. slice_get xs k ≡ Some x) z e
from_drop [] (suc n) j x e = absurd (cc)
from_drop (y ∷ xs) (suc n) j x e = let z : suc (n + j) ≡ suc n + j = omega arith in subst (λ k. slice_get (y ∷ xs) k ≡ Some x) z (from_drop xs n j x e)
