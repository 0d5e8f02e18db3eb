-- Members of lists by their places.
use Rattle.std.proofs.Common.{◌≡◌, ◌≢◌, refl, sym, ◌∙◌, ap, subst, ℕ, zero, suc, ◌<◌, ◌≤◌, List, [], ◌∷◌, length, get_or, take, slice_get, Some, arith, Contains, AllPairs, inl, inr}
use Rattle.std.proofs.lemmas.Option.{same_Some}
use Rattle.hs_scheme.proofs.Lists.{here, later, uncons, slice_get-read}

pub within_from : {X : Type 0} (xs : List X) (k : ℕ) (x : X) → slice_get xs k ≡ Some x → k < length xs
within_from [] k x e = absurd (cc)
within_from (y ∷ ys) zero x e = omega arith
within_from (y ∷ ys) (suc k) x e = let r = within_from ys k x e in omega (arith, r)

pub place_of : {X : Type 0} (xs : List X) (x : X) → Contains xs x → (k : ℕ) × (slice_get xs k ≡ Some x)
place_of xs x (k, h, e) = (k, slice_get-read xs k x h e)

pub at_take : {X : Type 0} (n : ℕ) (xs : List X) (k : ℕ) (x : X) → slice_get (take n xs) k ≡ Some x → (k < n) × (slice_get xs k ≡ Some x)
at_take zero xs k x e = absurd (let e : slice_get [] k ≡ Some x = e in cc)
at_take (suc n) [] k x e = absurd (cc)
at_take (suc n) (y ∷ ys) zero x e = (omega arith, e)
at_take (suc n) (y ∷ ys) (suc k) x e = let r = at_take n ys k x e in (omega (arith, r.0), r.1)

pub to_take : {X : Type 0} (n : ℕ) (xs : List X) (k : ℕ) (x : X) → k < n → slice_get xs k ≡ Some x → slice_get (take n xs) k ≡ Some x
to_take zero xs k x h e = absurd (omega arith)
to_take (suc n) [] k x h e = absurd (cc)
to_take (suc n) (y ∷ ys) zero x h e = e
to_take (suc n) (y ∷ ys) (suc k) x h e = to_take n ys k x (omega arith) e

-- of a list without repeats whose members are in another: it isn't longer
abbrev without : {X : Type 0} → List X → ℕ → List X
without [] k = []
without (y ∷ ys) zero = ys
without (y ∷ ys) (suc k) = y ∷ without ys k

length-without : {X : Type 0} (ys : List X) (k : ℕ) → k < length ys → suc (length (without ys k)) ≡ length ys
length-without [] k h = absurd (omega arith)
length-without (y ∷ ys) zero h = refl
length-without (y ∷ ys) (suc k) h = ap suc (length-without ys k (omega arith))

in_without : {X : Type 0} (ys : List X) (k : ℕ) (x q : X) → slice_get ys k ≡ Some x → (q ≡ x → ⊥) → Contains ys q → Contains (without ys k) q
in_without [] k x q e ne h = h
in_without (y ∷ ys) zero x q e ne h = elim (uncons y q ys h) [
  | inl is ↦ absurd (ne (is ∙ same_Some y x e))
  | inr there ↦ there
]
in_without (y ∷ ys) (suc k) x q e ne h = elim (uncons y q ys h) [
  | inl is ↦ subst (λ z. Contains (y ∷ without ys k) z) (sym is) (here y (without ys k))
  | inr there ↦ later y q (without ys k) (in_without ys k x q e ne there)
]

pub pairs_tail : {X : Type 0} (R : X → X → Type 0) (x : X) (xs : List X) → AllPairs R (x ∷ xs) → AllPairs R xs
pairs_tail R x xs h = λ i j d lt below. h (suc i) (suc j) d (omega arith) (omega arith)

pub pairs_head : {X : Type 0} (R : X → X → Type 0) (x y : X) (xs : List X) → AllPairs R (x ∷ xs) → Contains xs y → R x y
pairs_head R x y xs h (k, lt, e) = subst (λ z. R x z) e (h 0 (suc k) y (omega arith) (omega arith))

same_read : {X : Type 0} (ys : List X) (k : ℕ) (d : X) → k < length ys → get_or ys k (get_or ys k d) ≡ get_or ys k d
same_read [] k d h = absurd (omega arith)
same_read (y ∷ ys) zero d h = refl
same_read (y ∷ ys) (suc k) d h = same_read ys k d (omega arith)

pub pairs_cons : {X : Type 0} (R : X → X → Type 0) (x : X) (xs : List X) → ((y : X) → Contains xs y → R x y) → AllPairs R xs → AllPairs R (x ∷ xs)
pairs_cons R x xs first rest zero zero d lt below = absurd (omega arith)
pairs_cons R x xs first rest zero (suc j) d lt below = first (get_or xs j d) (j, omega arith, same_read xs j d (omega arith))
pairs_cons R x xs first rest (suc i) zero d lt below = absurd (omega arith)
pairs_cons R x xs first rest (suc i) (suc j) d lt below = rest i j d (omega arith) (omega arith)

pub fewer : {X : Type 0} (xs ys : List X) → AllPairs (λ a b. a ≢ b) xs → ((x : X) → Contains xs x → Contains ys x) → length xs ≤ length ys
fewer [] ys distinct all = omega arith
fewer (x ∷ xs) ys distinct all =
    let place = place_of ys x (all x (here x xs)) in
    let rest = fewer xs (without ys place.0) (pairs_tail (λ a b. a ≢ b) x xs distinct)
    (λ q h. in_without ys place.0 x q place.1 (λ e. pairs_head (λ a b. a ≢ b) x q xs distinct h (sym e)) (all q (later x q xs h))) in
    omega (arith, rest, length-without ys place.0 (within_from ys place.0 x place.1))
