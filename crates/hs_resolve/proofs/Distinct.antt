-- Names without repeats, one name after another.
use Rattle.std.proofs.Common.{◌≡◌, refl, sym, ◌∙◌, ap, ℕ, suc, ◌≤◌, Bool, true, false, not, ◌||◌, cond, List, [], ◌∷◌, ◌++◌, length, filter, append_assoc, arith}
use Rattle.std.specs.Str.{bytes_eq}
use Rattle.std.proofs.lemmas.Slice.Eq.{bytes_eq-Decides}
use Rattle.std.proofs.lemmas.List.Elements.{filter-append}
use Rattle.std.proofs.lemmas.Map.Views.{any-filter_same}
use Rattle.std.proofs.lemmas.List.{append-nil}
use Rattle.hs_resolve.specs.Names.{is_among, distinct, with_name, with_names}

pub same : (x y : List ℕ) → bytes_eq x y ≡ true → x ≡ y
same x y h = (bytes_eq-Decides x y).0 h

pub same_self : (x : List ℕ) → bytes_eq x x ≡ true
same_self x = (bytes_eq-Decides x x).1 refl

-- filtering out another name keeps a name
kept : (x y : List ℕ) (names : List (List ℕ)) → bytes_eq x y ≡ false → is_among (filter (λ z. not (bytes_eq y z)) names) x ≡ is_among names x
kept x y names other =
    any-filter_same (bytes_eq x) (λ z. not (bytes_eq y z)) true
    (λ z h. let e : x ≡ z = same x z h in
    elim (bytes_eq y z) as (λ b. bytes_eq y z ≡ b → not b ≡ true) [
      | true ↦ λ f. let g : y ≡ z = same y z f in absurd (let k : bytes_eq x y ≡ true = ap (bytes_eq x) (g ∙ sym e) ∙ same_self x in (cc))
      | false ↦ λ f. refl
    ] refl) names

pub among-distinct : (names : List (List ℕ)) (x : List ℕ) → is_among (distinct names) x ≡ is_among names x
among-distinct [] x = refl
among-distinct (y ∷ ys) x =
    elim (bytes_eq x y) as (λ b. bytes_eq x y ≡ b → (b || is_among (filter (λ z. not (bytes_eq y z)) (distinct ys)) x) ≡ (b || is_among ys x)) [
      | true ↦ λ e. refl
      | false ↦ λ e. kept x y (distinct ys) e ∙ among-distinct ys x
    ] refl

module _ (q : List ℕ → Bool) (names : List (List ℕ)) (x : List ℕ) where
  filter-out : q x ≡ false → filter q (with_name names x) ≡ filter q names
  filter-out h =
      elim (is_among names x) as (λ b. filter q (cond b names (names ++ x ∷ [])) ≡ filter q names) [
        | true ↦ refl
        | false ↦ filter-append q names (x ∷ []) ∙ (ap (λ b. filter q names ++ cond b (x ∷ []) []) h ∙ append-nil (filter q names))
      ]

  filter-in : q x ≡ true → filter q (with_name names x) ≡ cond (is_among names x) (filter q names) (filter q names ++ x ∷ [])
  filter-in h =
      elim (is_among names x) as (λ b. filter q (cond b names (names ++ x ∷ [])) ≡ cond b (filter q names) (filter q names ++ x ∷ [])) [
        | true ↦ refl
        | false ↦ filter-append q names (x ∷ []) ∙ ap (λ b. filter q names ++ cond b (x ∷ []) []) h
      ]

pub other_way : (x y : List ℕ) → bytes_eq x y ≡ false → bytes_eq y x ≡ false
other_way x y h =
    elim (bytes_eq y x) as (λ b. bytes_eq y x ≡ b → b ≡ false) [
      | true ↦ λ e. let f : y ≡ x = same y x e in absurd (let g : bytes_eq x y ≡ true = ap (bytes_eq x) f ∙ same_self x in (cc))
      | false ↦ λ e. refl
    ] refl

-- one more name behind the names that aren't y
without : (y x : List ℕ) (names : List (List ℕ)) → y ∷ filter (λ z. not (bytes_eq y z)) (with_name names x) ≡ with_name (y ∷ filter (λ z. not (bytes_eq y z)) names) x
without y x names =
    let q = λ (z : List ℕ). not (bytes_eq y z) in
    let rest = filter q names in
    elim (bytes_eq x y) as (λ b. bytes_eq x y ≡ b → y ∷ filter q (with_name names x) ≡ cond (b || is_among rest x) (y ∷ rest) ((y ∷ rest) ++ x ∷ [])) [
      | true ↦ λ e. let f : y ≡ x = sym (same x y e) in ap (λ zs. y ∷ zs) (filter-out q names x (ap not (ap (bytes_eq y) (sym f) ∙ same_self y)))
      | false ↦ λ e.
          ap (λ zs. y ∷ zs) (filter-in q names x (ap not (other_way x y e)))
          ∙ (elim (is_among names x) as (λ b. y ∷ cond b rest (rest ++ x ∷ []) ≡ cond b (y ∷ rest) (y ∷ (rest ++ x ∷ []))) [ true ↦ refl | false ↦ refl ]
          ∙ ap (λ b. cond b (y ∷ rest) (y ∷ (rest ++ x ∷ []))) (sym (kept x y names e)))
    ] refl

pub distinct-push : (names : List (List ℕ)) (x : List ℕ) → distinct (names ++ x ∷ []) ≡ with_name (distinct names) x
distinct-push [] x = refl
distinct-push (y ∷ ys) x = ap (λ zs. y ∷ filter (λ z. not (bytes_eq y z)) zs) (distinct-push ys x) ∙ without y x (distinct ys)

pub with_names-push : (names xs : List (List ℕ)) (x : List ℕ) → with_names names (xs ++ x ∷ []) ≡ with_name (with_names names xs) x
with_names-push names [] x = refl
with_names-push names (y ∷ ys) x = with_names-push (with_name names y) ys x

pub distinct-append : (xs ys : List (List ℕ)) → distinct (xs ++ ys) ≡ with_names (distinct xs) ys
distinct-append xs [] = ap distinct (append-nil xs)
distinct-append xs (y ∷ ys) =
    ap distinct (sym (append_assoc xs (y ∷ []) ys)) ∙ (distinct-append (xs ++ y ∷ []) ys ∙ ap (λ ns. with_names ns ys) (distinct-push xs y))

pub filter-le : {A : Type 0} (p : A → Bool) (xs : List A) → length (filter p xs) ≤ length xs
filter-le p [] = omega arith
filter-le p (x ∷ xs) =
    elim (p x) as (λ b. length (cond b (x ∷ filter p xs) (filter p xs)) ≤ suc (length xs)) [
      | true ↦ omega (arith, filter-le p xs)
      | false ↦ omega (arith, filter-le p xs)
    ]

pub distinct-le : (names : List (List ℕ)) → length (distinct names) ≤ length names
distinct-le [] = omega arith
distinct-le (x ∷ xs) = omega (arith, distinct-le xs, filter-le (λ y. not (bytes_eq x y)) (distinct xs))
