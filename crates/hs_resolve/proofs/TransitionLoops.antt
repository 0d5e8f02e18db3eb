-- The steps of the passes over transitions, over plain lists.
use Rattle.std.proofs.Common.{◌≡◌, refl, sym, ◌∙◌, ap, ℕ, zero, suc, ◌+◌, Bool, true, false, not, ◌&&◌, ◌||◌, cond, nat_eq, List, [], ◌∷◌, ◌++◌, length, take, map, find, slice_get, Option, Some, None, option_map, arith}
use Rattle.std.specs.List.{flat_map, list_any}
use Rattle.std.specs.Str.{bytes_eq}
use Rattle.std.proofs.lemmas.Bool.{eqb-true, eqb-false}
use Rattle.std.proofs.lemmas.List.Folds.{list_any-append}
use Rattle.std.proofs.lemmas.List.{map_push}
use Rattle.std.proofs.lemmas.Option.{same_Some}
use Rattle.hs_reader.specs.Raw.{Transition}
use Rattle.hs_resolve.specs.Names.{distinct, with_name, with_names}
use Rattle.hs_resolve.specs.Numbering.{states_in, first_of, rank_of}
use Rattle.hs_resolve.specs.Least.{IsLeast}
use Rattle.hs_resolve.specs.LineFaults.{same_left, RepeatsLeft, Clashes}
use Rattle.hs_resolve.specs.Lengths.{first_or, own_length, clash_line}
use Rattle.hs_resolve.proofs.Lists.{take-push, flat_map-push}
use Rattle.hs_resolve.proofs.Distinct.{same, same_self, other_way, distinct-append, with_names-push}

pub mapped-more : {A : Type 0} (f : A → List ℕ) (items : List A) (n : ℕ) (x : A) (first old new : List (List ℕ)) → slice_get items n ≡ Some x
    → old ≡ with_names first (map f (take n items)) → new ≡ with_name old (f x) → new ≡ with_names first (map f (take (n + 1) items))
mapped-more f items n x first old new at was e =
    e ∙ (ap (λ ns. with_name ns (f x)) was
    ∙ sym (ap (with_names first) (ap (map f) (take-push items n x at) ∙ map_push f (take n items) x) ∙ with_names-push first (map f (take n items)) (f x)))

pub states-more : (ts : List Transition) (n : ℕ) (t : Transition) (old new : List (List ℕ)) → slice_get ts n ≡ Some t
    → old ≡ distinct (flat_map states_in (take n ts)) → new ≡ with_names old (states_in t) → new ≡ distinct (flat_map states_in (take (n + 1) ts))
states-more ts n t old new at was e =
    e ∙ (ap (λ ns. with_names ns (states_in t)) was
    ∙ sym (ap (λ us. distinct (flat_map states_in us)) (take-push ts n t at)
    ∙ (ap distinct (flat_map-push states_in (take n ts) t) ∙ distinct-append (flat_map states_in (take n ts)) (states_in t))))

either_way : (x y : List ℕ) → bytes_eq x y ≡ bytes_eq y x
either_way x y =
    elim (bytes_eq x y) as (λ b. bytes_eq x y ≡ b → b ≡ bytes_eq y x) [
      | true ↦ λ e. let f : x ≡ y = same x y e in sym (ap (bytes_eq y) f ∙ same_self y)
      | false ↦ λ e. sym (other_way x y e)
    ] refl

met : (a b : Bool) → cond a true b ≡ (b || (a || false))
met true true = refl
met true false = refl
met false true = refl
met false false = refl

pub met-more : (ts : List Transition) (n : ℕ) (t : Transition) (p q : List ℕ) (old new : Bool) → slice_get ts n ≡ Some t
    → old ≡ list_any (λ u. bytes_eq p u.from.text && bytes_eq q u.terminal.text) (take n ts)
    → new ≡ cond (bytes_eq t.from.text p && bytes_eq t.terminal.text q) true old
    → new ≡ list_any (λ u. bytes_eq p u.from.text && bytes_eq q u.terminal.text) (take (n + 1) ts)
met-more ts n t p q old new at was e =
    let test = λ (u : Transition). bytes_eq p u.from.text && bytes_eq q u.terminal.text in
    e ∙ ((λ i. cond (either_way t.from.text p i && either_way t.terminal.text q i) true (was i))
    ∙ (met (test t) (list_any test (take n ts))
    ∙ sym (ap (list_any test) (take-push ts n t at) ∙ list_any-append test (take n ts) (t ∷ []))))

pub repeats_left-least : (ts : List Transition) (n : ℕ) (t : Transition) → IsLeast (RepeatsLeft ts n t) (cond (list_any (same_left t) (take n ts)) (Some t.from.line) None)
repeats_left-least ts n t =
    let b = list_any (same_left t) (take n ts) in
    elim b as (λ d. b ≡ d → IsLeast (RepeatsLeft ts n t) (cond d (Some t.from.line) None)) [
      | true ↦ λ e. ((refl, e), λ line p. omega (arith, p.0))
      | false ↦ λ e. λ line p. absurd (let f : true ≡ false = sym p.1 ∙ e in (cc))
    ] refl

pub first_or-none : (o : Option ℕ) → first_or o None ≡ o
first_or-none None = refl
first_or-none (Some n) = refl

-- one more transition behind the others
rank-push : (ts : List Transition) (t : Transition) (x : List ℕ) → rank_of (ts ++ t ∷ []) x ≡ first_or (rank_of ts x) (own_length t x)
rank-push [] t x = elim (bytes_eq x t.terminal.text) as (λ b. option_map (λ u. length u.to) (cond b (Some t) None) ≡ cond b (Some (length t.to)) None) [ true ↦ refl | false ↦ refl ]
rank-push (u ∷ us) t x =
    elim (bytes_eq x u.terminal.text) as (λ b. option_map (λ v. length v.to) (cond b (Some u) (first_of (us ++ t ∷ []) x)) ≡ first_or (option_map (λ v. length v.to) (cond b (Some u) (first_of us x))) (own_length t x)) [
      | true ↦ refl
      | false ↦ rank-push us t x
    ]

pub rank-more : (ts : List Transition) (n : ℕ) (t : Transition) (x : List ℕ) (old new : Option ℕ) → slice_get ts n ≡ Some t → old ≡ rank_of (take n ts) x → new ≡ first_or old (own_length t x)
    → new ≡ rank_of (take (n + 1) ts) x
rank-more ts n t x old new at was e =
    e ∙ (ap (λ o. first_or o (own_length t x)) was ∙ sym (ap (λ us. rank_of us x) (take-push ts n t at) ∙ rank-push (take n ts) t x))

find-front : {A : Type 0} (p : A → Bool) (xs : List A) (n : ℕ) (y : A) → find p (take n xs) ≡ Some y → find p xs ≡ Some y
find-front p [] zero y h = h
find-front p [] (suc n) y h = h
find-front p (x ∷ xs) zero y h = absurd (cc)
find-front p (x ∷ xs) (suc n) y h =
    elim (p x) as (λ b. cond b (Some x) (find p (take n xs)) ≡ Some y → cond b (Some x) (find p xs) ≡ Some y) [
      | true ↦ λ e. e
      | false ↦ λ e. find-front p xs n y e
    ] h

find-here : {A : Type 0} (p : A → Bool) (xs : List A) (n : ℕ) (y : A) → slice_get xs n ≡ Some y → p y ≡ true → find p (take n xs) ≡ None → find p xs ≡ Some y
find-here p [] n y at e h = absurd (cc)
find-here p (x ∷ xs) zero y at e h = let f : x ≡ y = same_Some x y at in ap (λ b. cond b (Some x) (find p xs)) (ap p f ∙ e) ∙ ap (λ z. Some z) f
find-here p (x ∷ xs) (suc n) y at e h =
    elim (p x) as (λ b. cond b (Some x) (find p (take n xs)) ≡ None → cond b (Some x) (find p xs) ≡ Some y) [
      | true ↦ λ f. absurd (cc)
      | false ↦ λ f. find-here p xs n y at e f
    ] h

pub clash-least : (ts : List Transition) (n : ℕ) (t : Transition) → slice_get ts n ≡ Some t → IsLeast (Clashes ts t) (clash_line (rank_of (take n ts) t.terminal.text) t)
clash-least ts n t at = go (first_of (take n ts) t.terminal.text) refl
  where
    mine : (u : Transition) → Bool
    mine u = bytes_eq t.terminal.text u.terminal.text

    other : (first : Transition) → first_of ts t.terminal.text ≡ Some first → length first.to ≡ length t.to → (line : ℕ) → Clashes ts t line → ⊥
    other first is len line c =
        let e : c.1 ≡ first = same_Some c.1 first (sym c.2 ∙ is) in c.3 (ap (λ (u : Transition). length u.to) e ∙ len)

    go : (o : Option Transition) → first_of (take n ts) t.terminal.text ≡ o → IsLeast (Clashes ts t) (clash_line (option_map (λ u. length u.to) o) t)
    go None h = λ line c. other t (find-here (λ u. bytes_eq t.terminal.text u.terminal.text) ts n t at (same_self t.terminal.text) h) refl line c
    go (Some first) h =
        let is = find-front (λ u. bytes_eq t.terminal.text u.terminal.text) ts n first h in
        elim (nat_eq (length first.to) (length t.to)) as (λ b. nat_eq (length first.to) (length t.to) ≡ b → IsLeast (Clashes ts t) (cond b None (Some t.from.line))) [
          | true ↦ λ e. λ line c. other first is (eqb-true _ _ e) line c
          | false ↦ λ e. ((refl, first, is, eqb-false _ _ e), λ line c. omega (arith, c.0))
        ] refl

-- what a map has for a name, after the terminal's length is put in where it had none
pub noted : (terminal x : List ℕ) (length : ℕ) (old new : Option ℕ) → new ≡ cond (bytes_eq terminal x) (Some length) old → (terminal ≡ x → old ≡ None)
    → new ≡ first_or old (cond (bytes_eq x terminal) (Some length) None)
noted terminal x length old new e absent =
    e ∙ elim (bytes_eq x terminal) as (λ b. bytes_eq x terminal ≡ b → cond (bytes_eq terminal x) (Some length) old ≡ first_or old (cond b (Some length) None)) [
      | true ↦ λ f. ap (λ b. cond b (Some length) old) (either_way terminal x ∙ f) ∙ sym (ap (λ o. first_or o (Some length)) (absent (sym (same x terminal f))))
      | false ↦ λ f. ap (λ b. cond b (Some length) old) (either_way terminal x ∙ f) ∙ sym (first_or-none old)
    ] refl

pub new_line : (fresh b : Bool) (line : ℕ) (o : Option ℕ) → fresh ≡ not b → fresh ≡ true → o ≡ None → o ≡ cond b (Some line) None
new_line fresh true line o e f h = absurd (let g : true ≡ false = sym f ∙ e in (cc))
new_line fresh false line o e f h = h

pub old_line : (fresh b : Bool) (line : ℕ) (o : Option ℕ) → fresh ≡ not b → fresh ≡ false → o ≡ Some line → o ≡ cond b (Some line) None
old_line fresh true line o e f h = h
old_line fresh false line o e f h = absurd (let g : true ≡ false = sym e ∙ f in (cc))
