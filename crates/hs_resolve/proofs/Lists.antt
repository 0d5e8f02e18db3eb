-- Lists under a map: tests and places.
use Rattle.std.proofs.Common.{◌≡◌, refl, sym, ◌∙◌, ap, ℕ, suc, ◌+◌, ◌<◌, ◌≤◌, Bool, true, false, not, ◌||◌, cond, nat_lt, List, [], ◌∷◌, ◌++◌, length, map, slice_get, Option, Some, None, option_map, position, arith, take, is_some}
use Rattle.std.specs.List.{list_any, position_or_len, flat_map}
use Rattle.std.proofs.lemmas.List.{append-nil, map_push, take_more}
use Rattle.std.proofs.lemmas.List.Concat.{flat_map-append}
use Rattle.std.proofs.lemmas.Option.{get_or_from_slice_get, slice_get-map, slice_get_within}
use Rattle.std.proofs.lemmas.Bool.{lt-ltb, le-ltb, ltb-true, ltb-false}

shift : (n m : ℕ) → cond (nat_lt (1 + n) (suc m)) (Some (1 + n)) None ≡ option_map suc (cond (nat_lt n m) (Some n) None)
shift n m =
    elim (nat_lt n m) as (λ b. nat_lt n m ≡ b → cond (nat_lt (1 + n) (suc m)) (Some (1 + n)) None ≡ option_map suc (cond b (Some n) None)) [
      | true ↦ λ e. let l : n < m = ltb-true n m e in
          let f : nat_lt (1 + n) (suc m) ≡ true = lt-ltb (1 + n) (suc m) (omega arith) in
          let g : 1 + n ≡ suc n = omega arith in ap (λ b. cond b (Some (1 + n)) None) f ∙ ap (λ k. Some k) g
      | false ↦ λ e. let l : m ≤ n = ltb-false n m e in
          let f : nat_lt (1 + n) (suc m) ≡ false = le-ltb (1 + n) (suc m) (omega arith) in ap (λ b. cond b (Some (1 + n)) None) f
    ] refl

first : (m : ℕ) → cond {A = Option ℕ} (nat_lt 0 (suc m)) (Some 0) None ≡ Some 0
first m =
    let f : nat_lt 0 (suc m) ≡ true = lt-ltb 0 (suc m) (omega arith) in
    let some : Option ℕ = Some 0 in ap (λ b. cond b some None) f

pub position-cons : {A : Type 0} (p : A → Bool) (x : A) (xs : List A) → position p (x ∷ xs) ≡ cond (p x) (Some 0) (option_map suc (position p xs))
position-cons p x xs =
    elim (p x) as (λ b. cond (nat_lt (cond (not b) (1 + position_or_len p xs) 0) (suc (length xs))) (Some (cond (not b) (1 + position_or_len p xs) 0)) None ≡ cond b (Some 0) (option_map suc (position p xs))) [
      | true ↦ first (length xs)
      | false ↦ shift (position_or_len p xs) (length xs)
    ]

pub pushed-map : {A B : Type 0} (f : A → B) (b c : Bool) (xs : List A) (x : A) → b ≡ c → map f (cond b xs (xs ++ x ∷ [])) ≡ cond c (map f xs) (map f xs ++ f x ∷ [])
pushed-map f b c xs x e =
    ap (λ d. map f (cond d xs (xs ++ x ∷ []))) e ∙ elim c as (λ d. map f (cond d xs (xs ++ x ∷ [])) ≡ cond d (map f xs) (map f xs ++ f x ∷ [])) [
      | true ↦ refl
      | false ↦ map_push f xs x
    ]

pub take-push : {A : Type 0} (xs : List A) (i : ℕ) (x : A) → slice_get xs i ≡ Some x → take (i + 1) xs ≡ take i xs ++ x ∷ []
take-push xs i x at = take_more xs i x (slice_get_within xs i x at) ∙ ap (λ y. take i xs ++ y ∷ []) (get_or_from_slice_get xs i x x at)

pub flat_map-push : {A B : Type 0} (f : A → List B) (xs : List A) (x : A) → flat_map f (xs ++ x ∷ []) ≡ flat_map f xs ++ f x
flat_map-push f xs x = flat_map-append f xs (x ∷ []) ∙ ap (λ ys. flat_map f xs ++ ys) (append-nil (f x))

pub at_map : {A B : Type 0} (f : A → B) (xs : List A) (i : ℕ) (x : A) → slice_get xs i ≡ Some x → slice_get (map f xs) i ≡ Some (f x)
at_map f xs i x at = slice_get-map f xs i ∙ ap (option_map f) at

pub is_some-position : {A : Type 0} (p : A → Bool) (xs : List A) → is_some (position p xs) ≡ list_any p xs
is_some-position p [] = refl
is_some-position p (x ∷ xs) =
    ap is_some (position-cons p x xs) ∙ elim (p x) as (λ b. is_some (cond b (Some 0) (option_map suc (position p xs))) ≡ (b || list_any p xs)) [
      | true ↦ refl
      | false ↦ some-map (position p xs) ∙ is_some-position p xs
    ]
  where
    some-map : (o : Option ℕ) → is_some (option_map suc o) ≡ is_some o
    some-map None = refl
    some-map (Some i) = refl

pub map-map : {A B C : Type 0} (f : B → C) (g : A → B) (xs : List A) → map (λ x. f (g x)) xs ≡ map f (map g xs)
map-map f g [] = refl
map-map f g (x ∷ xs) = ap (λ ys. f (g x) ∷ ys) (map-map f g xs)

-- one more element in a list that is made element by element
pub pushed-more : {A B : Type 0} (f : A → B) (items : List A) (n : ℕ) (x : A) (old new : List B) (y : B) → slice_get items n ≡ Some x → old ≡ map f (take n items) → new ≡ old ++ y ∷ [] → y ≡ f x
    → new ≡ map f (take (n + 1) items)
pushed-more f items n x old new y at was e same =
    e ∙ ((λ i. was i ++ same i ∷ []) ∙ sym (ap (map f) (take-push items n x at) ∙ map_push f (take n items) x))
