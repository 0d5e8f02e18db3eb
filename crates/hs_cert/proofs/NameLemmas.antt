-- A name is found at its place.
use Rattle.std.proofs.Common.{◌≡◌, refl, sym, ◌∙◌, ap, ℕ, zero, suc, ◌+◌, ◌<◌, Bool, true, false, cond, nat_lt, List, [], ◌∷◌, ◌++◌, length, get_or, slice_get, position, Some, None, Contains, AllPairs, ◌⊎◌, inl, inr, ◌≢◌, ◌||◌, take, map, Bor, arith}
use Rattle.std.specs.List.{list_any, position_or_len}
use Rattle.std.specs.Str.{bytes_eq}
use Rattle.std.proofs.lemmas.Bool.{lt-ltb}
use Rattle.std.proofs.lemmas.List.Quantifiers.{position-Some}
use Rattle.std.proofs.lemmas.Slice.Eq.{bytes_eq-Decides}
use Rattle.std.proofs.lemmas.List.{map-append, take_more}
use Rattle.std.proofs.lemmas.Option.{get_or_from_slice_get, slice_get_within}
use Rattle.hs_scheme.proofs.Lists.{uncons, none_in, any-map, Contains-at}
use Rattle.hs_table_laws.proofs.Places.{pairs_head, pairs_tail}
use Rattle.hs_text.specs.Canonical.{name_at}
use Rattle.hs_cert.proofs.Fronts.{name_read}

pub found_at : (names : List (List ℕ)) (x : List ℕ) (q : ℕ) → position (bytes_eq x) names ≡ Some q → name_at names q ≡ x
found_at names x q at =
    let p = position-Some (bytes_eq x) names q [] at in
    name_read names q p.0 ∙ sym ((bytes_eq-Decides x (get_or names q [])).0 p.1)

-- the first place lies within the list where a member passes
reaches : (x : List ℕ) (names : List (List ℕ)) → Contains names x → position_or_len (bytes_eq x) names < length names
reaches x [] c = absurd (none_in x c)
reaches x (y ∷ ys) c = go (bytes_eq x y) refl (elim (uncons y x ys c) as (λ s. (x ≡ y) ⊎ (position_or_len (bytes_eq x) ys < length ys)) [
  | inl is ↦ inl is
  | inr there ↦ inr (reaches x ys there)
])
  where
    go : (t : Bool) → bytes_eq x y ≡ t → (x ≡ y) ⊎ (position_or_len (bytes_eq x) ys < length ys) → position_or_len (bytes_eq x) (y ∷ ys) < length (y ∷ ys)
    go true e s = rw e (omega arith)
    go false e (inl is) = absurd (let f : true ≡ false = sym ((bytes_eq-Decides x y).1 is) ∙ e in cc)
    go false e (inr lower) = rw e (omega (arith, lower))

pub not_found : (names : List (List ℕ)) (x : List ℕ) → position (bytes_eq x) names ≡ None → Contains names x → ⊥
not_found names x none c =
    let yes : nat_lt (position_or_len (bytes_eq x) names) (length names) ≡ true = lt-ltb (position_or_len (bytes_eq x) names) (length names) (reaches x names c) in
    let some : position (bytes_eq x) names ≡ Some (position_or_len (bytes_eq x) names) = ap (λ b. cond b (Some (position_or_len (bytes_eq x) names)) None) yes in
    let f : Some (position_or_len (bytes_eq x) names) ≡ None = sym some ∙ none in cc

-- ---- names that are put into an index one by one

not_same : (x y : List ℕ) → (y ≡ x → ⊥) → bytes_eq x y ≡ false
not_same x y differ = go (bytes_eq x y) refl
  where
    go : (t : Bool) → bytes_eq x y ≡ t → bytes_eq x y ≡ false
    go true e = absurd (differ (sym ((bytes_eq-Decides x y).0 e)))
    go false e = e

fresh : (names : List (List ℕ)) (i : ℕ) (x : List ℕ) → AllPairs (λ a b. a ≢ b) names → slice_get names i ≡ Some x → list_any (bytes_eq x) (take i names) ≡ false
fresh [] i x d at = absurd (cc)
fresh (y ∷ ys) zero x d at = refl
fresh (y ∷ ys) (suc i) x d at =
    let no = not_same x y (pairs_head (λ a b. a ≢ b) y x ys d (Contains-at ys i x at)) in
    let rest = fresh ys i x (pairs_tail (λ a b. a ≢ b) y ys d) at in
    λ j. no j || rest j

pushed : {A B : Type 0} (f : A → B) (b : Bool) (xs : List A) (x : A) → b ≡ false → map f (cond b xs (xs ++ x ∷ [])) ≡ map f xs ++ f x ∷ []
pushed f b xs x e = ap (λ d. map f (cond d xs (xs ++ x ∷ []))) e ∙ map-append f xs (x ∷ [])

pub index_more : (names : List (List ℕ)) (i : ℕ) (x : List ℕ) (keys : List (Bor (List ℕ))) (v : Bor (List ℕ)) → AllPairs (λ a b. a ≢ b) names → slice_get names i ≡ Some x → v.now ≡ x
    → map (λ k. k.now) keys ≡ take i names
    → map (λ k. k.now) (cond (list_any (λ k. bytes_eq v.now k.now) keys) keys (keys ++ v ∷ [])) ≡ take (i + 1) names
index_more names i x keys v differ at is were =
    let text = λ (k : Bor (List ℕ)). k.now in
    let new : list_any (λ k. bytes_eq v.now k.now) keys ≡ false =
    sym (any-map (bytes_eq v.now) text keys) ∙ (ap (list_any (bytes_eq v.now)) were ∙ (ap (λ y. list_any (bytes_eq y) (take i names)) is ∙ fresh names i x differ at)) in
    pushed text (list_any (λ k. bytes_eq v.now k.now) keys) keys v new
    ∙ ((λ j. were j ++ is j ∷ []) ∙ sym (take_more names i x (slice_get_within names i x at) ∙ ap (λ y. take i names ++ y ∷ []) (get_or_from_slice_get names i x x at)))
