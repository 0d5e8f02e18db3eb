-- Texts that are joined by a separator, item by item.
use Rattle.std.proofs.Common.{◌≡◌, sym, ◌∙◌, ap, ℕ, ◌+◌, ◌<◌, nat_eq, false, List, [], ◌∷◌, ◌++◌, length, take, map, slice_get, Some, if◌then◌else◌, append_assoc, add-one, arith}
use Rattle.std.specs.List.{flat_map, enumerate_from, join_by}
use Rattle.std.proofs.lemmas.List.{append-nil, take_more, map-append, length-map, length-take-le}
use Rattle.std.proofs.lemmas.Bool.{ne_eqb}
use Rattle.std.proofs.lemmas.List.Concat.{flat_map-append}
use Rattle.std.proofs.lemmas.List.FromFn.{length-enumerate_from}
use Rattle.std.proofs.lemmas.Option.{get_or_from_slice_get, slice_get_within}
use Rattle.hs_text.proofs.Texts.{enumerate-push}

join_by-push : {X : Type 0} (f : X → List ℕ) (sep : List ℕ) (xs : List X) (x : X) → join_by f sep (xs ++ x ∷ []) ≡ join_by f sep xs ++ ((if nat_eq (length xs) 0 then [] else sep) ++ f x)
join_by-push f sep [] x = append-nil (f x)
join_by-push {X} f sep (y ∷ ys) x =
    let g : X → List ℕ = λ z. sep ++ f z in
    let some : nat_eq (length (y ∷ ys)) 0 ≡ false = ne_eqb (length (y ∷ ys)) 0 (λ e. omega arith) in
    ap (λ t. f y ++ t) (flat_map-append g ys (x ∷ []) ∙ ap (λ t. flat_map g ys ++ t) (append-nil (g x)))
    ∙ (sym (append_assoc (f y) (flat_map g ys) (sep ++ f x)) ∙ ap (λ b. join_by f sep (y ∷ ys) ++ ((if b then [] else sep) ++ f x)) (sym some))

-- one more item stands behind the separator
pub joined-more : {X : Type 0} (f : X → List ℕ) (sep : List ℕ) (xs zs : List X) (x : X) (n : ℕ) → zs ≡ xs ++ x ∷ [] → length xs ≡ n
    → join_by f sep xs ++ ((if nat_eq n 0 then [] else sep) ++ f x) ≡ join_by f sep zs
joined-more f sep xs zs x n are long =
    sym (ap (join_by f sep) are ∙ (join_by-push f sep xs x ∙ ap (λ m. join_by f sep xs ++ ((if nat_eq m 0 then [] else sep) ++ f x)) long))

module _ {A : Type 0} (xs : List A) (n : ℕ) (x : A) (at : slice_get xs n ≡ Some x) where
  within : n < length xs
  within = slice_get_within xs n x at

  long : length (take n xs) ≡ n
  long = length-take-le n xs (omega (arith, within))

  more : take (n + 1) xs ≡ take n xs ++ x ∷ []
  more = take_more xs n x within ∙ ap (λ u. take n xs ++ u ∷ []) (get_or_from_slice_get xs n x x at)

  -- so of the images of the items so far
  pub mapped-more : {B : Type 0} (g : A → B) → map g (take (n + 1) xs) ≡ map g (take n xs) ++ g x ∷ []
  mapped-more g = ap (map g) more ∙ map-append g (take n xs) (x ∷ [])

  pub mapped-long : {B : Type 0} (g : A → B) → length (map g (take n xs)) ≡ n
  mapped-long g = length-map (take n xs) g ∙ long

  -- and of the items so far with their numbers
  pub numbered-more : enumerate_from 0 (take (n + 1) xs) ≡ enumerate_from 0 (take n xs) ++ (n, x) ∷ []
  numbered-more =
      let zero_n : 0 + n ≡ n = omega arith in rw add-one (enumerate-push 0 xs n x at ∙ ap (λ m. enumerate_from 0 (take n xs) ++ (m, x) ∷ []) zero_n)

  pub numbered-long : length (enumerate_from 0 (take n xs)) ≡ n
  numbered-long = length-enumerate_from 0 (take n xs) ∙ long
