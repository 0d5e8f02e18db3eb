-- A list that gains a place at its end.
use Rattle.std.proofs.Common.{◌≡◌, ◌≢◌, ◌∙◌, ap, ℕ, ◌+◌, ◌-◌, ◌≤◌, List, [], ◌∷◌, ◌++◌, length, get_or, slice_get, Some, length-append, arith, inl, inr}
use Rattle.std.proofs.lemmas.Bool.{cases_lt}
use Rattle.std.proofs.lemmas.Option.{slice_get-get_or}
use Rattle.std.proofs.lemmas.List.{get_or_append_left, get_or_push}
use Rattle.std.proofs.lemmas.List.Elements.{All-append, All-cons, Contains-append_left, Contains-append_cases}
use Rattle.hs_scheme.proofs.Lists.{only}
use Rattle.hs_replica.specs.Index.{RisesTo, AddsTo}

last_at : (xs : List ℕ) (k : ℕ) → length xs ≡ k + 1 → slice_get xs (length xs - 1) ≡ Some (get_or xs k 0)
last_at xs k long = let e : length xs - 1 ≡ k = omega arith in ap (slice_get xs) e ∙ slice_get-get_or xs k 0 (omega arith)

-- the place at the end of an ascending list, of which it isn't the last yet
rises_push : (place : ℕ) (xs : List ℕ) → ((x : ℕ) → slice_get xs (length xs - 1) ≡ Some x → x ≡ place → ⊥) → RisesTo place xs → RisesTo place (xs ++ place ∷ [])
rises_push place xs apart r = record {
  ascending = λ k lt. elim (cases_lt (k + 1) (length xs)) [
    | inl less ↦
        let a : get_or (xs ++ place ∷ []) k 0 ≡ get_or xs k 0 = get_or_append_left xs (place ∷ []) 0 k (omega arith) in
        let b : get_or (xs ++ place ∷ []) (k + 1) 0 ≡ get_or xs (k + 1) 0 = get_or_append_left xs (place ∷ []) 0 (k + 1) less in
        omega (arith, a, b, r.ascending k less)
    | inr more ↦
        let long : length xs ≡ k + 1 = omega (arith, length-append xs (place ∷ [])) in
        let a : get_or (xs ++ place ∷ []) k 0 ≡ get_or xs k 0 = get_or_append_left xs (place ∷ []) 0 k (omega arith) in
        let b : get_or (xs ++ place ∷ []) (k + 1) 0 ≡ place = get_or_push xs place 0 (k + 1) long in
        let other : get_or xs k 0 ≢ place = apart (get_or xs k 0) (last_at xs k long) in
        omega (arith, a, b, r.below k 0 (omega arith), other)
  ];
  below = All-append (λ x. x ≤ place) xs (place ∷ []) r.below (All-cons (λ x. x ≤ place) place [] (omega arith) (λ k d lt. absurd (omega arith)));
}

pub pushed : (place : ℕ) (xs : List ℕ) → (slice_get xs (length xs - 1) ≡ Some place → ⊥) → AddsTo place xs (xs ++ place ∷ [])
pushed place xs apart = record {
  only = λ i h. elim (Contains-append_cases xs (place ∷ []) i h) [ inl was ↦ inl was | inr last ↦ inr (only place i last) ];
  keeps = λ i h. Contains-append_left xs (place ∷ []) i h;
  rises = rises_push place xs (λ x at e. apart (at ∙ ap (λ y. Some y) e));
}
