-- Members of lists by their places, what is read at a place, and lists put together.
use Rattle.std.proofs.Common.{◌≡◌, refl, sym, ◌∙◌, ap, subst, ℕ, zero, suc, ◌+◌, ◌-◌, ◌<◌, Bool, true, false, cond, not, ◌||◌, ltb, nat_eq, nat_lt, List, [], ◌∷◌, ◌++◌, length, map, filter, position, get_or, slice_get, Option, Some, None, MatchOption, Contains, AllPairs, ◌⊎◌, inl, inr, Result, Ok, Err, OnErr, arith}
use Rattle.std.proofs.lemmas.Bool.{cases_lt, eqb-true, ltb-true, ltb-false}
use Rattle.std.specs.List.{list_any, prefix_len}
use Rattle.std.proofs.lemmas.List.{append-nil, length-append, length-map, get_or_append_left, get_or-append_right}
use Rattle.std.proofs.lemmas.List.Elements.{Contains-get_or, All-filter}
use Rattle.std.proofs.lemmas.Option.{same_Some, slice_get_read, slice_get_past}

-- ---- members

pub none_in : {X : Type 0} (x : X) → Contains [] x → ⊥
none_in x (k, h, e) = omega arith

pub here : {X : Type 0} (x : X) (xs : List X) → Contains (x ∷ xs) x
here x xs = (0, omega arith, refl)

pub later : {X : Type 0} (x y : X) (xs : List X) → Contains xs y → Contains (x ∷ xs) y
later x y xs (k, h, e) = (suc k, omega arith, e)

pub uncons : {X : Type 0} (a x : X) (s : List X) → Contains (a ∷ s) x → (x ≡ a) ⊎ Contains s x
uncons a x s (zero, h, is) = inl (sym is)
uncons a x s (suc k, h, is) = inr (k, omega arith, is)

pub only : {X : Type 0} (x y : X) → Contains (x ∷ []) y → y ≡ x
only x y c = elim (uncons x y [] c) [
  | inl e ↦ e
  | inr nowhere ↦ absurd (none_in y nowhere)
]

-- ---- filters

kept : {X : Type 0} (b : Bool) (y : X) (ys : List X) (x : X) → Contains ys x → Contains (cond b (y ∷ ys) ys) x
kept true y ys x (k, lt, is) = (suc k, omega arith, is)
kept false y ys x there = there

-- what passes is in what is filtered, and what is there was in the list
pub filter_keeps : {X : Type 0} (m : X → Bool) (xs : List X) (x : X) → m x ≡ true → Contains xs x → Contains (filter m xs) x
filter_keeps m [] x passes (k, lt, is) = absurd (omega arith)
filter_keeps m (y ∷ ys) x passes (zero, lt, is) = rw (subst (λ z. m z ≡ true) (sym is) passes) (0, omega arith, is)
filter_keeps m (y ∷ ys) x passes (suc k, lt, is) = kept (m y) y (filter m ys) x (filter_keeps m ys x passes (k, omega arith, is))

pub filter_has : {X : Type 0} (m : X → Bool) (xs : List X) (x : X) → Contains (filter m xs) x → Contains xs x
filter_has {X} m xs x (k, lt, is) = subst (Contains xs) is (All-filter m (Contains xs) xs (λ i d l. Contains-get_or xs i d l) k x lt)

pub filter_passes : {X : Type 0} (m : X → Bool) (xs : List X) (x : X) → Contains (filter m xs) x → m x ≡ true
filter_passes m [] x c = absurd (none_in x c)
filter_passes m (y ∷ ys) x c = elim (m y) as (λ b. m y ≡ b → Contains (cond b (y ∷ filter m ys) (filter m ys)) x → m x ≡ true) [
  | true ↦ λ e d. elim (uncons y x (filter m ys) d) [
    | inl is ↦ ap m is ∙ e
    | inr there ↦ filter_passes m ys x there
  ]
  | false ↦ λ e d. filter_passes m ys x d
] refl c

-- ---- what is read at a place

pub slice_get-read : {X : Type 0} (xs : List X) (k : ℕ) (x : X) → k < length xs → get_or xs k x ≡ x → slice_get xs k ≡ Some x
slice_get-read [] k x h e = absurd (omega arith)
slice_get-read (y ∷ ys) zero x h e = ap (λ z. Some z) e
slice_get-read (y ∷ ys) (suc k) x h e = slice_get-read ys k x (omega arith) e

pub read-slice_get : {X : Type 0} (xs : List X) (k : ℕ) (x : X) → slice_get xs k ≡ Some x → (k < length xs) × (get_or xs k x ≡ x)
read-slice_get [] k x e = absurd (cc)
read-slice_get (y ∷ ys) zero x e = (omega arith, same_Some y x e)
read-slice_get (y ∷ ys) (suc k) x e = let r = read-slice_get ys k x e in (omega (arith, r.0), r.1)

pub Contains-at : {X : Type 0} (xs : List X) (k : ℕ) (x : X) → slice_get xs k ≡ Some x → Contains xs x
Contains-at xs k x e = let r = read-slice_get xs k x e in (k, r.0, r.1)

pub some_at : {X : Type 0} (xs : List X) (n : ℕ) → n < length xs → (x : X) × (slice_get xs n ≡ Some x)
some_at [] n h = absurd (omega arith)
some_at (x ∷ xs) zero h = (x, refl)
some_at (x ∷ xs) (suc n) h = some_at xs n (omega arith)

-- what `get` reads
pub got_some : {X : Type 0} (xs : List X) (i : ℕ) (x : X) → true ≡ ltb i (length xs) → x ≡ get_or xs i x → slice_get xs i ≡ Some x
got_some xs i x there e = slice_get_read xs (length xs) i x refl (ltb-true i (length xs) (sym there)) e

pub got_none : {X : Type 0} (xs : List X) (i : ℕ) → false ≡ ltb i (length xs) → slice_get xs i ≡ None
got_none xs i past = slice_get_past xs i (ltb-false i (length xs) (sym past))

-- ---- lists put together

pub at_append : {X : Type 0} (xs ys : List X) (k : ℕ) (x : X) → slice_get xs k ≡ Some x → slice_get (xs ++ ys) k ≡ Some x
at_append [] ys k x e = absurd (cc)
at_append (z ∷ xs) ys zero x e = e
at_append (z ∷ xs) ys (suc k) x e = at_append xs ys k x e

pub back_at : {X : Type 0} (xs ys : List X) (i : ℕ) → slice_get (xs ++ ys) (length xs + i) ≡ slice_get ys i
back_at [] ys i = let e : 0 + i ≡ i = omega arith in ap (λ k. slice_get ys k) e
back_at (x ∷ xs) ys i = let e : length (x ∷ xs) + i ≡ suc (length xs + i) = omega arith in ap (λ k. slice_get (x ∷ (xs ++ ys)) k) e ∙ back_at xs ys i

pub slice_get-append : {X : Type 0} (xs ys : List X) (i : ℕ) → i < length xs → slice_get (xs ++ ys) i ≡ slice_get xs i
slice_get-append [] ys i lt = absurd (omega arith)
slice_get-append (x ∷ xs) ys zero lt = refl
slice_get-append (x ∷ xs) ys (suc i) lt = slice_get-append xs ys i (omega arith)

pub slice_get-push : {X : Type 0} (xs : List X) (y : X) → slice_get (xs ++ y ∷ []) (length xs) ≡ Some y
slice_get-push [] y = refl
slice_get-push (x ∷ xs) y = slice_get-push xs y

pub push_cases : {X : Type 0} (xs : List X) (y x : X) (k : ℕ) → slice_get (xs ++ y ∷ []) k ≡ Some x → (slice_get xs k ≡ Some x) ⊎ ((k ≡ length xs) × (y ≡ x))
push_cases [] y x zero h = inr (refl, same_Some y x h)
push_cases [] y x (suc k) h = absurd (cc)
push_cases (z ∷ xs) y x zero h = inl h
push_cases (z ∷ xs) y x (suc k) h = elim (push_cases xs y x k h) [ inl was ↦ inl was | inr (e, is) ↦ inr (ap suc e, is) ]

-- x stands behind xs, at place i of the two together
pub record Behind {A : Type 0} (xs ys : List A) (i : ℕ) (x : A) : Type 0 where
  pub place : ℕ
  pub is : i ≡ length xs + place
  pub at : slice_get ys place ≡ Some x

pub place-append : {A : Type 0} (xs ys : List A) (i : ℕ) (x : A) → slice_get (xs ++ ys) i ≡ Some x → (slice_get xs i ≡ Some x) ⊎ Behind xs ys i x
place-append [] ys i x e = inr (record { place = i; is = omega arith; at = e })
place-append (y ∷ xs) ys zero x e = inl e
place-append (y ∷ xs) ys (suc i) x e = elim (place-append xs ys i x e) [
  | inl h ↦ inl h
  | inr b ↦ inr (record { place = b.place; is = omega (arith, b.is); at = b.at })
]

-- a list is gone through
pub all_given : {X : Type 0} (ys rest all : List X) → length rest ≡ 0 → ys ++ rest ≡ all → ys ≡ all
all_given ys [] all none whole = sym (append-nil ys) ∙ whole
all_given ys (x ∷ rest) all none whole = absurd (omega arith)

-- a relation of all in two lists, and of those of the one to those of the other
pub pairs_append : {X : Type 0} (R : X → X → Type 0) (xs ys : List X) → AllPairs R xs → AllPairs R ys → ((x y : X) → Contains xs x → Contains ys y → R x y) → AllPairs R (xs ++ ys)
pairs_append {X} R xs ys front back across i j d less within =
    let long : length (xs ++ ys) ≡ length xs + length ys = length-append xs ys in
    elim (cases_lt j (length xs)) [
      | inl lt ↦ subst (λ (x : X). R x (get_or (xs ++ ys) j d)) (sym (get_or_append_left xs ys d i (omega arith))) (subst (R (get_or xs i d)) (sym (get_or_append_left xs ys d j lt)) (front i j d less lt))
      | inr ge ↦ subst (R (get_or (xs ++ ys) i d)) (sym (get_or-append_right xs ys (length xs) j d refl ge)) (elim (cases_lt i (length xs)) [
        | inl lt ↦ subst (λ (x : X). R x (get_or ys (j - length xs) d)) (sym (get_or_append_left xs ys d i lt)) (across (get_or xs i d) (get_or ys (j - length xs) d) (Contains-get_or xs i d lt) (Contains-get_or ys (j - length xs) d (omega arith)))
        | inr later ↦ subst (λ (x : X). R x (get_or ys (j - length xs) d)) (sym (get_or-append_right xs ys (length xs) i d refl later)) (back (i - length xs) (j - length xs) d (omega arith) (omega arith))
      ])
    ]

-- ---- searches under a map

pub any-map : {A B : Type 0} (p : B → Bool) (f : A → B) (xs : List A) → list_any p (map f xs) ≡ list_any (λ x. p (f x)) xs
any-map p f [] = refl
any-map p f (x ∷ xs) = ap (λ b. p (f x) || b) (any-map p f xs)

pub prefix-map : {A B : Type 0} (p : B → Bool) (f : A → B) (xs : List A) → prefix_len p (map f xs) ≡ prefix_len (λ x. p (f x)) xs
prefix-map p f [] = refl
prefix-map p f (x ∷ xs) = ap (λ n. cond (p (f x)) (1 + n) 0) (prefix-map p f xs)

pub position-map : {A B : Type 0} (p : B → Bool) (f : A → B) (xs : List A) → position p (map f xs) ≡ position (λ x. p (f x)) xs
position-map p f xs =
    let e = prefix-map (λ y. not (p y)) f xs in
    let l = length-map xs f in (λ i. cond (nat_lt (e i) (l i)) (Some (e i)) None)

-- ---- numbers and answers

pub not_equal : (a b : ℕ) → (a ≡ b → ⊥) → nat_eq a b ≡ false
not_equal a b ne = by (nat_eq a b) refl
  where
    by : (c : Bool) → nat_eq a b ≡ c → c ≡ false
    by true e = absurd (ne (eqb-true a b e))
    by false e = refl

pub on_err : {A E : Type 0} (r : Result A E) (P : Type 0) → P → OnErr r P
on_err (Ok a) P p = tt
on_err (Err e) P p = p

-- what a search that may find nothing gives
pub match_some : {X : Type 0} (o : Option X) (x : X) (P : Type 0) (Q : X → Type 0) → o ≡ Some x → MatchOption o P Q → Q x
match_some o x P Q is h = subst (λ r. MatchOption r P Q) is h

pub match_none : {X : Type 0} (o : Option X) (P : Type 0) (Q : X → Type 0) → o ≡ None → MatchOption o P Q → P
match_none o P Q is h = subst (λ r. MatchOption r P Q) is h
