-- Elements chosen from lists, and where they stand then.
use Rattle.std.proofs.Common.{◌≡◌, refl, sym, ◌∙◌, ap, subst, ℕ, zero, suc, ◌+◌, ◌<◌, ◌≤◌, Bool, true, false, cond, zero-add, List, [], ◌∷◌, ◌++◌, length, map, take, get_or, slice_get, Some, arith, add-one, add-zero, append-nil}
use Rattle.std.proofs.lemmas.Bool.{eq-eqb, eqb-true, ltb-true, ltb-false}
use Rattle.std.proofs.Math.Seq.{take-suc}
use Rattle.std.proofs.lemmas.List.{length-take-le, map-append}
use Rattle.std.specs.Prelude.{◌&&◌, nat_eq, nat_lt}
use Rattle.std.proofs.Math.Numerals.{one-add}
use Rattle.hs_passes.specs.Selection.{place, chosen}

cond_both : {A B : Type 0} (f : A → B) (b : Bool) (x y : A) → f (cond b x y) ≡ cond b (f x) (f y)
cond_both f true x y = refl
cond_both f false x y = refl

pub length-chosen : {A : Type 0} (keep : ℕ → Bool) (xs : List A) → length (chosen keep xs) ≡ place keep (length xs)
length-chosen keep [] = refl
length-chosen keep (x ∷ xs) = by (keep 0) (length-chosen (λ f. keep (suc f)) xs)
  where
    by : (b : Bool) → length (chosen (λ f. keep (suc f)) xs) ≡ place (λ f. keep (suc f)) (length xs)
        → length (cond b (x ∷ chosen (λ f. keep (suc f)) xs) (chosen (λ f. keep (suc f)) xs)) ≡ cond b 1 0 + place (λ f. keep (suc f)) (length xs)
    by true e = omega (arith, e)
    by false e = omega (arith, e)

pub map-chosen : {A B : Type 0} (h : A → B) (keep : ℕ → Bool) (xs : List A) → map h (chosen keep xs) ≡ chosen keep (map h xs)
map-chosen h keep [] = refl
map-chosen h keep (x ∷ xs) = by (keep 0) (map-chosen h (λ f. keep (suc f)) xs)
  where
    by : (b : Bool) → map h (chosen (λ f. keep (suc f)) xs) ≡ chosen (λ f. keep (suc f)) (map h xs)
        → map h (cond b (x ∷ chosen (λ f. keep (suc f)) xs) (chosen (λ f. keep (suc f)) xs)) ≡ cond b (h x ∷ chosen (λ f. keep (suc f)) (map h xs)) (chosen (λ f. keep (suc f)) (map h xs))
    by true e = ap (λ ys. h x ∷ ys) e
    by false e = e

-- only what is said of the numbers below the length matters
pub chosen-same : {A : Type 0} (keep other : ℕ → Bool) (xs : List A) → ((f : ℕ) → f < length xs → keep f ≡ other f) → chosen keep xs ≡ chosen other xs
chosen-same keep other [] same = refl
chosen-same keep other (x ∷ xs) same =
    let e = chosen-same (λ f. keep (suc f)) (λ f. other (suc f)) xs (λ f lt. same (suc f) (omega arith)) in
    λ i. cond (same 0 (omega arith) i) (x ∷ e i) (e i)

pub place-same : (keep other : ℕ → Bool) (n : ℕ) → ((f : ℕ) → f < n → keep f ≡ other f) → place keep n ≡ place other n
place-same keep other zero same = refl
place-same keep other (suc n) same =
    let e = place-same (λ f. keep (suc f)) (λ f. other (suc f)) n (λ f lt. same (suc f) (omega arith)) in
    λ i. cond (same 0 (omega arith) i) 1 0 + e i

pub place-le : (keep : ℕ → Bool) (n : ℕ) → place keep n ≤ n
place-le keep zero = omega arith
place-le keep (suc n) = by (keep 0) (place-le (λ f. keep (suc f)) n)
  where
    by : (b : Bool) → place (λ f. keep (suc f)) n ≤ n → cond b 1 0 + place (λ f. keep (suc f)) n ≤ suc n
    by true e = omega arith
    by false e = omega arith

pub place-suc : (keep : ℕ → Bool) (n : ℕ) → place keep (suc n) ≡ place keep n + cond (keep n) 1 0
place-suc keep zero = omega arith
place-suc keep (suc n) = ap (λ k. cond (keep 0) 1 0 + k) (place-suc (λ f. keep (suc f)) n) ∙ omega arith

-- a rule that stays comes before the end
pub place-lt : (keep : ℕ → Bool) (f n : ℕ) → keep f ≡ true → f < n → place keep f < place keep n
place-lt keep f zero kept lt = absurd (omega arith)
place-lt keep zero (suc n) kept lt = rw kept (omega arith)
place-lt keep (suc f) (suc n) kept lt =
    let e = place-lt (λ g. keep (suc g)) f n kept (omega arith) in omega arith

pub chosen-at : {A : Type 0} (keep : ℕ → Bool) (xs : List A) (f : ℕ) (x : A) → keep f ≡ true → slice_get xs f ≡ Some x → slice_get (chosen keep xs) (place keep f) ≡ Some x
chosen-at keep [] f x kept at = absurd (cc)
chosen-at keep (y ∷ xs) zero x kept at = rw kept at
chosen-at keep (y ∷ xs) (suc f) x kept at = by (keep 0) (chosen-at (λ g. keep (suc g)) xs f x kept at)
  where
    by : (b : Bool) → slice_get (chosen (λ g. keep (suc g)) xs) (place (λ g. keep (suc g)) f) ≡ Some x
        → slice_get (cond b (y ∷ chosen (λ g. keep (suc g)) xs) (chosen (λ g. keep (suc g)) xs)) (cond b 1 0 + place (λ g. keep (suc g)) f) ≡ Some x
    by true e = ap (λ k. slice_get (y ∷ chosen (λ g. keep (suc g)) xs) k) (one-add (place (λ g. keep (suc g)) f)) ∙ e
    by false e = ap (λ k. slice_get (chosen (λ g. keep (suc g)) xs) k) (zero-add (place (λ g. keep (suc g)) f)) ∙ e

-- where a chosen element comes from
pub record Origin {A : Type 0} (keep : ℕ → Bool) (xs : List A) (g : ℕ) (x : A) : Type 0 where
  pub from : ℕ
  pub kept : keep from ≡ true
  pub at : slice_get xs from ≡ Some x
  pub is : place keep from ≡ g

pub origin : {A : Type 0} (keep : ℕ → Bool) (xs : List A) (g : ℕ) (x : A) → slice_get (chosen keep xs) g ≡ Some x → Origin keep xs g x
origin keep [] g x at = absurd (cc)
origin keep (y ∷ xs) g x at = by (λ k. origin (λ f. keep (suc f)) xs k x) (keep 0) refl g at
  where
    behind_it : (b : Bool) (k : ℕ) → keep 0 ≡ b → Origin (λ f. keep (suc f)) xs k x → Origin keep (y ∷ xs) (cond b 1 0 + k) x
    behind_it b k e h = record { from = suc h.from; kept = h.kept; at = h.at; is = λ i. cond (e i) 1 0 + h.is i }

    by : ((k : ℕ) → slice_get (chosen (λ f. keep (suc f)) xs) k ≡ Some x → Origin (λ f. keep (suc f)) xs k x) → (b : Bool) → keep 0 ≡ b → (g : ℕ) → slice_get (cond b (y ∷ chosen (λ f. keep (suc f)) xs) (chosen (λ f. keep (suc f)) xs)) g ≡ Some x → Origin keep (y ∷ xs) g x
    by below true e zero at = record { from = 0; kept = e; at = at; is = refl }
    by below true e (suc g) at = subst (λ k. Origin keep (y ∷ xs) k x) (one-add g) (behind_it true g e (below g at))
    by below false e g at = subst (λ k. Origin keep (y ∷ xs) k x) (zero-add g) (behind_it false g e (below g at))

-- one more element at the end
pub chosen-last : {A : Type 0} (keep : ℕ → Bool) (xs : List A) (x : A) → chosen keep (xs ++ x ∷ []) ≡ chosen keep xs ++ cond (keep (length xs)) (x ∷ []) []
chosen-last keep [] x = cond_both (λ ys. ys) (keep 0) (x ∷ []) []
chosen-last keep (y ∷ xs) x = by (keep 0) (chosen-last (λ f. keep (suc f)) xs x)
  where
    by : (b : Bool) → chosen (λ f. keep (suc f)) (xs ++ x ∷ []) ≡ chosen (λ f. keep (suc f)) xs ++ cond (keep (suc (length xs))) (x ∷ []) []
        → cond b (y ∷ chosen (λ f. keep (suc f)) (xs ++ x ∷ [])) (chosen (λ f. keep (suc f)) (xs ++ x ∷ []))
        ≡ cond b (y ∷ chosen (λ f. keep (suc f)) xs) (chosen (λ f. keep (suc f)) xs) ++ cond (keep (suc (length xs))) (x ∷ []) []
    by true e = ap (λ ys. y ∷ ys) e
    by false e = e

pub mapped_more : {A B : Type 0} (f : A → B) (xs : List A) (i : ℕ) (d : A) → i < length xs → map f (take (i + 1) xs) ≡ map f (take i xs) ++ f (get_or xs i d) ∷ []
mapped_more f xs i d lt = ap (λ n. map f (take n xs)) (add-one i) ∙ (ap (map f) (take-suc xs i d lt) ∙ map-append f (take i xs) (get_or xs i d ∷ []))

module _ {A : Type 0} (keep : ℕ → Bool) (xs : List A) (i : ℕ) (d : A) (lt : i < length xs) where
  take_more : chosen keep (take (i + 1) xs) ≡ chosen keep (take i xs) ++ cond (keep i) (get_or xs i d ∷ []) []
  take_more =
      ap (λ n. chosen keep (take n xs)) (add-one i)
      ∙ (ap (chosen keep) (take-suc xs i d lt)
      ∙ (chosen-last keep (take i xs) (get_or xs i d)
      ∙ ap (λ n. chosen keep (take i xs) ++ cond (keep n) (get_or xs i d ∷ []) []) (length-take-le i xs (omega arith))))

  pub one_chosen : keep i ≡ true → chosen keep (take (i + 1) xs) ≡ chosen keep (take i xs) ++ get_or xs i d ∷ []
  one_chosen e = take_more ∙ ap (λ b. chosen keep (take i xs) ++ cond b (get_or xs i d ∷ []) []) e

  pub one_left : keep i ≡ false → chosen keep (take (i + 1) xs) ≡ chosen keep (take i xs)
  one_left e = take_more ∙ (ap (λ b. chosen keep (take i xs) ++ cond b (get_or xs i d ∷ []) []) e ∙ append-nil (chosen keep (take i xs)))

-- one more number told
pub told_more : (xs : List ℕ) (n : ℕ) (P : ℕ → ℕ) → ((f : ℕ) → f < length xs → get_or xs f 0 ≡ P f) → n ≡ P (length xs) → (f : ℕ) → f < suc (length xs) → get_or (xs ++ n ∷ []) f 0 ≡ P f
told_more [] n P each e zero lt = e
told_more [] n P each e (suc f) lt = absurd (omega arith)
told_more (x ∷ xs) n P each e zero lt = each 0 (omega arith)
told_more (x ∷ xs) n P each e (suc f) lt = told_more xs n (λ k. P (suc k)) (λ k l. each (suc k) (omega arith)) e f (omega arith)

pub place_more : (keep : ℕ → Bool) (i n m : ℕ) (b : Bool) → keep i ≡ b → n ≡ place keep i → m ≡ n + cond b 1 0 → m ≡ place keep (i + 1)
place_more keep i n m b e is more = more ∙ ((λ j. is j + cond (sym e j) 1 0) ∙ (sym (place-suc keep i) ∙ ap (place keep) (sym (add-one i))))

-- a choice from a choice
pub chosen-chosen : {A : Type 0} (keep other : ℕ → Bool) (xs : List A) → chosen other (chosen keep xs) ≡ chosen (λ f. keep f && other (place keep f)) xs
chosen-chosen keep other [] = refl
chosen-chosen keep other (x ∷ xs) = by (keep 0) refl
    (λ (p : ℕ → Bool). chosen-chosen (λ f. keep (suc f)) p xs)
  where
    rest : {A : Type 0} (keep : ℕ → Bool) → List A → List A
    rest keep xs = chosen (λ f. keep (suc f)) xs

    on : (b : Bool) → keep 0 ≡ b → ℕ → Bool
    on b e f = keep (suc f) && other (cond b 1 0 + place (λ g. keep (suc g)) f)

    by : (b : Bool) (e : keep 0 ≡ b)
        → ((p : ℕ → Bool) → chosen p (chosen (λ f. keep (suc f)) xs) ≡ chosen (λ f. keep (suc f) && p (place (λ g. keep (suc g)) f)) xs)
        → chosen other (cond b (x ∷ chosen (λ f. keep (suc f)) xs) (chosen (λ f. keep (suc f)) xs))
        ≡ cond (b && other 0) (x ∷ chosen (λ f. keep (suc f) && other (cond (keep 0) 1 0 + place (λ g. keep (suc g)) f)) xs) (chosen (λ f. keep (suc f) && other (cond (keep 0) 1 0 + place (λ g. keep (suc g)) f)) xs)
    by true e below =
        let same : chosen (λ f. other (suc f)) (chosen (λ f. keep (suc f)) xs) ≡ chosen (λ f. keep (suc f) && other (cond (keep 0) 1 0 + place (λ g. keep (suc g)) f)) xs =
        below (λ f. other (suc f)) ∙ (λ i. chosen (λ f. keep (suc f) && other ((sym (one-add (place (λ g. keep (suc g)) f)) ∙ ap (λ b. cond b 1 0 + place (λ g. keep (suc g)) f) (sym e)) i)) xs) in
        λ i. cond (other 0) (x ∷ same i) (same i)
    by false e below =
        below other ∙ (λ i. chosen (λ f. keep (suc f) && other ((sym (zero-add (place (λ g. keep (suc g)) f)) ∙ ap (λ b. cond b 1 0 + place (λ g. keep (suc g)) f) (sym e)) i)) xs)

pub place-place : (keep other : ℕ → Bool) (f : ℕ) → place other (place keep f) ≡ place (λ g. keep g && other (place keep g)) f
place-place keep other zero = refl
place-place keep other (suc f) = ap (place other) (place-suc keep f) ∙ (by (keep f) (place-place keep other f) ∙ sym (place-suc (λ g. keep g && other (place keep g)) f))
  where
    by : (b : Bool) → place other (place keep f) ≡ place (λ g. keep g && other (place keep g)) f
        → place other (place keep f + cond b 1 0) ≡ place (λ g. keep g && other (place keep g)) f + cond (b && other (place keep f)) 1 0
    by true same = ap (place other) (add-one (place keep f)) ∙ (place-suc other (place keep f) ∙ ap (λ n. n + cond (other (place keep f)) 1 0) same)
    by false same = ap (place other) (add-zero (place keep f)) ∙ (same ∙ sym (add-zero (place (λ g. keep g && other (place keep g)) f)))

-- numbers of rules that stay are equal only of equal rules
pub place-eq : (keep : ℕ → Bool) (f g : ℕ) → keep f ≡ true → keep g ≡ true → nat_eq (place keep f) (place keep g) ≡ nat_eq f g
place-eq keep f g p q = by (nat_lt f g) refl (nat_lt g f) refl
  where
    apart : (m n : ℕ) → (m ≡ n → ⊥) → (b : Bool) → nat_eq m n ≡ b → b ≡ false
    apart m n ne true e = absurd (ne (eqb-true m n e))
    apart m n ne false e = refl

    by : (a : Bool) → nat_lt f g ≡ a → (b : Bool) → nat_lt g f ≡ b → nat_eq (place keep f) (place keep g) ≡ nat_eq f g
    by true e b d =
        let lt : f < g = ltb-true f g e in let l = place-lt keep f g p lt in
        apart (place keep f) (place keep g) (λ e. absurd (omega (arith, e, l))) (nat_eq (place keep f) (place keep g)) refl
        ∙ sym (apart f g (λ e. absurd (omega (arith, e, lt))) (nat_eq f g) refl)
    by false e true d =
        let lt : g < f = ltb-true g f d in let l = place-lt keep g f q lt in
        apart (place keep f) (place keep g) (λ e. absurd (omega (arith, e, l))) (nat_eq (place keep f) (place keep g)) refl
        ∙ sym (apart f g (λ e. absurd (omega (arith, e, lt))) (nat_eq f g) refl)
    by false e false d =
        let ge : g ≤ f = ltb-false f g e in let le : f ≤ g = ltb-false g f d in
        let same : f ≡ g = omega (arith, ge, le) in
        eq-eqb (place keep f) (place keep g) (ap (place keep) same) ∙ sym (eq-eqb f g same)

-- the same for lists of any values
pub read_more : {A : Type 0} (d : A) (xs : List A) (x : A) (P : ℕ → A) → ((f : ℕ) → f < length xs → get_or xs f d ≡ P f) → x ≡ P (length xs) → (f : ℕ) → f < suc (length xs) → get_or (xs ++ x ∷ []) f d ≡ P f
read_more d [] x P each e zero lt = e
read_more d [] x P each e (suc f) lt = absurd (omega arith)
read_more d (y ∷ xs) x P each e zero lt = each 0 (omega arith)
read_more d (y ∷ xs) x P each e (suc f) lt = read_more d xs x (λ k. P (suc k)) (λ k l. each (suc k) (omega arith)) e f (omega arith)
