-- Members of lists.
use Rattle.std.specs.Prelude.{◌&&◌, IsTrue}
use Rattle.std.proofs.Common.{◌≡◌, refl, Bool, true, false, sym, ◌∙◌, ap, subst, ℕ, zero, suc, ◌+◌, ◌-◌, ◌<◌, List, [], ◌∷◌, ◌++◌, length, map, get_or, take, drop, Result, Ok, Err, OnOk, All, arith, Contains, ◌⊎◌, inl, inr}
use Rattle.std.specs.List.{insert}
use Rattle.std.proofs.lemmas.List.Elements.{Contains-append_cases, Contains-append_left, Contains-get_or}
use Rattle.std.proofs.lemmas.List.{get_or_default, get_or-append_right, get_or-drop, length-map, length-take-le}
use Rattle.hs_scheme.proofs.Lists.{Contains-at, none_in, uncons}
use Rattle.hs_table_laws.proofs.Places.{place_of, at_take}
use Rattle.hs_table_laws.proofs.Members.{taken_next}

pub read_other : {X : Type 0} (xs : List X) (k : ℕ) (x d : X) → k < length xs → get_or xs k x ≡ x → get_or xs k d ≡ x
read_other xs k x d h e = get_or_default xs k d x h ∙ e

-- a member of one more is one of those so far or the last
pub taken_cases : {X : Type 0} (xs : List X) (k : ℕ) (y x : X) → k < length xs → y ≡ get_or xs k y → Contains (take (k + 1) xs) x → Contains (take k xs) x ⊎ (x ≡ y)
taken_cases xs k y x lt is c = elim (Contains-append_cases (take k xs) (y ∷ []) x (subst (λ zs. Contains zs x) (taken_next xs k y lt is) c)) [
  | inl was ↦ inl was
  | inr last ↦ inr (elim (uncons y x [] last) [ inl e ↦ e | inr nowhere ↦ absurd (none_in x nowhere) ])
]

pub on_ok_map : {X E : Type 0} (r : Result X E) (P Q : Type 0) → (P → Q) → OnOk r P → OnOk r Q
on_ok_map (Ok x) P Q f h = f h
on_ok_map (Err e) P Q f h = tt

pub read_self : (xs : List ℕ) (k d : ℕ) → k < length xs → get_or xs k d ≡ get_or xs k (get_or xs k d)
read_self xs k d h = get_or_default xs k d (get_or xs k d) h

pub read_again : {X : Type 0} (xs : List X) (k : ℕ) (d : X) → k < length xs → get_or xs k d ≡ get_or xs k (get_or xs k d)
read_again xs k d h = get_or_default xs k d (get_or xs k d) h

pub all_from : {X : Type 0} (P : X → Type 0) (xs : List X) → ((x : X) → Contains xs x → P x) → All P xs
all_from P xs f = λ k d lt. f (get_or xs k d) (Contains-get_or xs k d lt)

-- equal types have the same values
pub along : {A B : Type 0} → A ≡ B → A → B
along e a = subst (λ (X : Type 0). X) e a

pub both_are : (a b : Bool) → IsTrue (a && b) → IsTrue a × IsTrue b
both_are true true h = (refl, refl)
both_are true false h = absurd (cc)
both_are false b h = absurd (cc)

pub on_ok_both : {X E : Type 0} (r : Result X E) (P Q R : Type 0) → (P → Q → R) → OnOk r P → OnOk r Q → OnOk r R
on_ok_both (Ok x) P Q R f h k = f h k
on_ok_both (Err e) P Q R f h k = tt

-- one more item where room was made before
pub push_later : {X : Type 0} (old mid new : List X) (x : X) → mid ≡ old → new ≡ mid ++ x ∷ [] → new ≡ old ++ x ∷ []
push_later old mid new x same is = is ∙ ap (λ xs. xs ++ x ∷ []) same

pub pushed_keeps : {X : Type 0} (old new : List X) (x : X) → new ≡ old ++ x ∷ [] → (y : X) → Contains old y → Contains new y
pushed_keeps old new x is y there = subst (λ zs. Contains zs y) (sym is) (Contains-append_left old (x ∷ []) y there)

pub pushed_only : {X : Type 0} (old new : List X) (x : X) → new ≡ old ++ x ∷ [] → (y : X) → Contains new y → Contains old y ⊎ (y ≡ x)
pushed_only old new x is y there = elim (Contains-append_cases old (x ∷ []) y (subst (λ zs. Contains zs y) is there)) [
  | inl was ↦ inl was
  | inr last ↦ inr (elim (uncons x y [] last) [ inl e ↦ e | inr nowhere ↦ absurd (none_in y nowhere) ])
]

-- an item more, at its place
pub map_insert : {X Y : Type 0} (f : X → Y) (xs : List X) (at : ℕ) (x : X) → map f (insert xs at x) ≡ insert (map f xs) at (f x)
map_insert f xs zero x = refl
map_insert f [] (suc at) x = refl
map_insert f (y ∷ xs) (suc at) x = ap (λ zs. f y ∷ zs) (map_insert f xs at x)

-- the item that comes next, where those before it were changed, is one of the list
pub edited_item : {X : Type 0} (f : X → X) (xs ys : List X) (k : ℕ) (x : X) → k < length xs → ys ≡ map f (take k xs) ++ drop k xs → x ≡ get_or ys k x → Contains xs x
edited_item f xs ys k x lt is item =
    let many : length (map f (take k xs)) ≡ k = length-map (take k xs) f ∙ length-take-le k xs (omega (arith, lt)) in
    let at : get_or ys k x ≡ get_or xs k x = ap (λ zs. get_or zs k x) is ∙ (get_or-append_right (map f (take k xs)) (drop k xs) k k x many (omega arith) ∙ (get_or-drop k xs (k - k) x ∙ ap (λ n. get_or xs n x) (let z : k + (k - k) ≡ k = omega arith in z))) in
    (k, lt, sym (item ∙ at))

-- one of the first of a list is one of the list
pub first_there : {X : Type 0} (k : ℕ) (xs : List X) (x : X) → Contains (take k xs) x → Contains xs x
first_there k xs x there = let p = place_of (take k xs) x there in Contains-at xs p.0 x (at_take k xs p.0 x p.1).1
