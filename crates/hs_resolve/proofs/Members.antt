-- Elements of lists by their places, and the numbers of names.
use Rattle.std.proofs.Common.{◌≡◌, ◌≢◌, refl, sym, ◌∙◌, ap, subst, ℕ, zero, suc, ◌<◌, ◌≤◌, Bool, true, false, ◌||◌, cond, List, [], ◌∷◌, ◌++◌, length, take, map, filter, slice_get, Option, Some, None, option_map, unwrap_or, is_some, position, All, add-one, arith}
use Rattle.std.specs.List.{list_any, flat_map, AllByRecursion}
use Rattle.std.specs.Str.{bytes_eq}
use Rattle.std.proofs.lemmas.List.{take_all, length-map}
use Rattle.std.proofs.lemmas.List.Folds.{list_any-append}
use Rattle.std.proofs.lemmas.Option.{get_or_from_slice_get, slice_get_within, same_Some}
use Rattle.std.proofs.lemmas.Bool.{or_left, or_right}
use Rattle.hs_scheme.proofs.Lists.{some_at}
use Rattle.hs_reader.specs.declared.raw.RawName.{RawName}
use Rattle.hs_resolve.specs.Names.{texts, is_among, number_of, number, distinct, with_name}
use Rattle.hs_resolve.specs.LineFaults.{Repeats}
use Rattle.hs_resolve.proofs.Lists.{at_map, position-cons, is_some-position, take-push}
use Rattle.hs_resolve.proofs.Distinct.{same, distinct-push}

-- what holds of each image, by places
pub all-map : {A B : Type 0} (P : B → Type 0) (f : A → B) (xs : List A) → ((i : ℕ) (x : A) → slice_get xs i ≡ Some x → P (f x)) → All P (map f xs)
all-map P f xs h = λ k d lt.
    let len = length-map xs f in
    let s = some_at xs k (omega arith) in
    subst P (sym (get_or_from_slice_get (map f xs) k (f s.0) d (at_map f xs k s.0 s.1))) (h k s.0 s.1)

pub all-same : {A : Type 0} (P : A → Type 0) (xs : List A) → ((i : ℕ) (x : A) → slice_get xs i ≡ Some x → P x) → AllByRecursion P xs
all-same P [] h = tt
all-same P (x ∷ xs) h = (h 0 x refl, all-same P xs (λ i y at. h (suc i) y at))

pub all-append : {A : Type 0} (P : A → Type 0) (xs ys : List A) → AllByRecursion P (xs ++ ys) → AllByRecursion P xs × AllByRecursion P ys
all-append P [] ys h = (tt, h)
all-append P (x ∷ xs) ys h = let r = all-append P xs ys h.1 in ((h.0, r.0), r.1)

pub recursion-at : {A : Type 0} (P : A → Type 0) (xs : List A) (i : ℕ) (x : A) → slice_get xs i ≡ Some x → AllByRecursion P xs → P x
recursion-at P [] i x at h = absurd (cc)
recursion-at P (y ∷ ys) zero x at h = subst P (same_Some y x at) h.0
recursion-at P (y ∷ ys) (suc i) x at h = recursion-at P ys i x at h.1

pub all-from : {A : Type 0} (P : A → Type 0) (xs : List A) → AllByRecursion P xs → All P xs
all-from P xs h = λ k d lt.
    let s = some_at xs k lt in
    subst P (sym (get_or_from_slice_get xs k s.0 d s.1)) (recursion-at P xs k s.0 s.1 h)

pub not-empty : {A : Type 0} (xs : List A) → xs ≢ [] → 0 < length xs
not-empty [] h = absurd (h refl)
not-empty (x ∷ xs) h = omega arith

-- where two functions agree at each element, they make the same list
pub map-same : {A B : Type 0} (f g : A → B) (xs : List A) → ((i : ℕ) (x : A) → slice_get xs i ≡ Some x → f x ≡ g x) → map f xs ≡ map g xs
map-same f g [] h = refl
map-same f g (x ∷ xs) h = λ i. h 0 x refl i ∷ map-same f g xs (λ j y at. h (suc j) y at) i

pub any-before : {A : Type 0} (p : A → Bool) (xs : List A) (i n : ℕ) (x : A) → slice_get xs i ≡ Some x → i < n → p x ≡ true → list_any p (take n xs) ≡ true
any-before p [] i n x at lt h = absurd (cc)
any-before p (y ∷ ys) i zero x at lt h = absurd (omega arith)
any-before p (y ∷ ys) zero (suc n) x at lt h = ap (λ b. b || list_any p (take n ys)) (ap p (same_Some y x at) ∙ h)
any-before p (y ∷ ys) (suc i) (suc n) x at lt h = elim (p y) as (λ b. (b || list_any p (take n ys)) ≡ true) [ true ↦ refl | false ↦ any-before p ys i n x at (omega arith) h ]

pub any-filter : {A : Type 0} (p q : A → Bool) (xs : List A) (i : ℕ) (x : A) → slice_get xs i ≡ Some x → q x ≡ true → p x ≡ true → list_any p (filter q xs) ≡ true
any-filter p q [] i x at keep h = absurd (cc)
any-filter p q (y ∷ ys) zero x at keep h =
    let e : y ≡ x = same_Some y x at in
    ap (λ b. list_any p (cond b (y ∷ filter q ys) (filter q ys))) (ap q e ∙ keep) ∙ or_left (p y) (list_any p (filter q ys)) (ap p e ∙ h)
any-filter p q (y ∷ ys) (suc i) x at keep h =
    elim (q y) as (λ b. list_any p (cond b (y ∷ filter q ys) (filter q ys)) ≡ true) [
      | true ↦ or_right (p y) (list_any p (filter q ys)) (any-filter p q ys i x at keep h)
      | false ↦ any-filter p q ys i x at keep h
    ]

pub any-flat_map : {A B : Type 0} (p : B → Bool) (f : A → List B) (xs : List A) (i : ℕ) (x : A) → slice_get xs i ≡ Some x → list_any p (f x) ≡ true → list_any p (flat_map f xs) ≡ true
any-flat_map p f [] i x at h = absurd (cc)
any-flat_map p f (y ∷ ys) zero x at h =
    list_any-append p (f y) (flat_map f ys) ∙ or_left (list_any p (f y)) (list_any p (flat_map f ys)) (ap (λ z. list_any p (f z)) (same_Some y x at) ∙ h)
any-flat_map p f (y ∷ ys) (suc i) x at h =
    list_any-append p (f y) (flat_map f ys) ∙ or_right (list_any p (f y)) (list_any p (flat_map f ys)) (any-flat_map p f ys i x at h)

-- where a place is found, the element there passes
found : {A : Type 0} (p : A → Bool) (y : A) (ys : List A) → ((m : ℕ) → position p ys ≡ Some m → (x : A) × ((slice_get ys m ≡ Some x) × (p x ≡ true)))
    → (b : Bool) → p y ≡ b → (o : Option ℕ) → position p ys ≡ o → (j : ℕ) → cond b (Some 0) (option_map suc o) ≡ Some j → (x : A) × ((slice_get (y ∷ ys) j ≡ Some x) × (p x ≡ true))
found p y ys below true e o f j g = let k : 0 ≡ j = same_Some 0 j g in (y, (subst (λ m. slice_get (y ∷ ys) m ≡ Some y) k refl, e))
found p y ys below false e None f j g = absurd (cc)
found p y ys below false e (Some m) f j g =
    let k : suc m ≡ j = same_Some (suc m) j g in
    let r = below m f in (r.0, (subst (λ n. slice_get (y ∷ ys) n ≡ Some r.0) k r.1.0, r.1.1))

pub position-at : {A : Type 0} (p : A → Bool) (xs : List A) (i : ℕ) → position p xs ≡ Some i → (x : A) × ((slice_get xs i ≡ Some x) × (p x ≡ true))
position-at p [] i h = absurd (let e : None ≡ Some i = h in (cc))
position-at p (y ∷ ys) i h = found p y ys (λ m e. position-at p ys m e) (p y) refl (position p ys) refl i (sym (position-cons p y ys) ∙ h)

some_of : (o : Option ℕ) → is_some o ≡ true → o ≡ Some (unwrap_or o 0)
some_of None h = absurd (cc)
some_of (Some i) h = refl

-- the name of its number
pub number-name : (names : List (List ℕ)) (x : List ℕ) → is_among names x ≡ true → slice_get names (number names x) ≡ Some x
number-name names x h =
    let r = position-at (bytes_eq x) names (number names x) (some_of (number_of names x) (is_some-position (bytes_eq x) names ∙ h)) in
    r.1.0 ∙ ap (λ y. Some y) (sym (same x r.0 r.1.1))

pub number-within : (names : List (List ℕ)) (x : List ℕ) → is_among names x ≡ true → number names x < length names
number-within names x h = slice_get_within names (number names x) x (number-name names x h)

-- names among which none repeats an earlier one
module _ (names : List RawName) (apart : (line : ℕ) → Repeats names line → ⊥) where
  apart-take : (n : ℕ) → n ≤ length names → distinct (take n (texts names)) ≡ take n (texts names)
  apart-take zero h = refl
  apart-take (suc n) h =
      let s = some_at names n (omega arith) in
      let so_far = take n (texts names) in
      let at = at_map (λ m. m.text) names n s.0 s.1 in
      let more : take (suc n) (texts names) ≡ so_far ++ s.0.text ∷ [] = rw (← add-one n) (take-push (texts names) n s.0.text at) in
      let other : is_among so_far s.0.text ≡ false =
      elim (is_among so_far s.0.text) as (λ b. is_among so_far s.0.text ≡ b → b ≡ false) [
        | true ↦ λ e. absurd (apart s.0.line (record { place = n; item = s.0; at = s.1; holds = (refl, e) }))
        | false ↦ λ e. refl
      ] refl in
      ap distinct more ∙ (distinct-push so_far s.0.text ∙ (ap (λ ns. with_name ns s.0.text) (apart-take n (omega arith))
      ∙ (ap (λ b. cond b so_far (so_far ++ s.0.text ∷ [])) other ∙ sym more)))

  pub apart-distinct : distinct (texts names) ≡ texts names
  apart-distinct =
      let len : length (texts names) ≡ length names = length-map names (λ m. m.text) in
      let all : take (length names) (texts names) ≡ texts names = take_all (length names) (texts names) (omega arith) in
      ap distinct (sym all) ∙ (apart-take (length names) (omega arith) ∙ all)
