-- Lists that are added to, step by step.
use Rattle.std.proofs.Common.{◌≡◌, sym, subst, ℕ, ◌+◌, ◌<◌, ◌≤◌, List, [], ◌∷◌, ◌++◌, length, get_or, take, Contains, inl, inr, ◌↔◌}
use Rattle.std.proofs.lemmas.List.{take_all, take_more}
use Rattle.std.proofs.lemmas.List.Elements.{Contains-append_left, Contains-push}
use Rattle.hs_table_laws.proofs.Members.{pushed_cases}
use Rattle.hs_flow_checker.proofs.Parts.{next_item, none_first}
use Rattle.hs_sites.specs.Collecting.{AddsTo}

pub adds_none : {X : Type 0} (S : X → Type 0) (xs : List X) → ((x : X) → S x → ⊥) → AddsTo S xs xs
adds_none S xs never x = (λ m. inl m, λ h. elim h [ inl m ↦ m | inr s ↦ absurd (never x s) ])

pub adds_as : {X : Type 0} (S T : X → Type 0) (old new : List X) → ((x : X) → S x ↔ T x) → AddsTo S old new → AddsTo T old new
adds_as S T old new same adds x = (
  λ m. elim ((adds x).0 m) [ inl was ↦ inl was | inr s ↦ inr ((same x).0 s) ],
  λ h. elim h [ inl was ↦ (adds x).1 (inl was) | inr t ↦ (adds x).1 (inr ((same x).1 t)) ],
)

pub adds_pushed : {X : Type 0} (S : X → Type 0) (old new : List X) (y : X) → new ≡ old ++ y ∷ [] → ((x : X) → S x ↔ (x ≡ y)) → AddsTo S old new
adds_pushed {X} S old new y is same x = (
  λ m. elim (pushed_cases old y x (subst (λ (xs : List X). Contains xs x) is m)) [ inl was ↦ inl was | inr e ↦ inr ((same x).1 e) ],
  λ h. elim h [
    | inl was ↦ subst (λ (xs : List X). Contains xs x) (sym is) (Contains-append_left old (y ∷ []) x was)
    | inr s ↦ subst (λ (xs : List X). Contains xs x) (sym is) (subst (λ (z : X). Contains (old ++ y ∷ []) z) (sym ((same x).0 s)) (Contains-push old y))
  ],
)

-- what comes by some item of a list
abbrev pub ByAny : {A X : Type 0} → List A → (A → X → Type 0) → X → Type 0
ByAny {A} {X} items P x = (a : A) × (Contains items a × P a x)

pub by_none : {A X : Type 0} (items : List A) (P : A → X → Type 0) (xs : List X) → AddsTo (ByAny (take 0 items) P) xs xs
by_none items P xs = adds_none (ByAny (take 0 items) P) xs (λ x h. none_first items h.0 h.1.0)

pub by_more : {A X : Type 0} (items : List A) (k : ℕ) (d : A) (P : A → X → Type 0) (old mid new : List X) → k < length items → AddsTo (ByAny (take k items) P) old mid → AddsTo (P (get_or items k d)) mid new
    → AddsTo (ByAny (take (k + 1) items) P) old new
by_more {A} items k d P old mid new lt so_far now x = (
  λ m. elim ((now x).0 m) [
    | inl was ↦ elim ((so_far x).0 was) [
      | inl old ↦ inl old
      | inr by ↦ inr (by.0, (subst (λ (as_far : List A). Contains as_far by.0) (sym (take_more items k d lt)) (Contains-append_left (take k items) (get_or items k d ∷ []) by.0 by.1.0), by.1.1))
    ]
    | inr own ↦ inr (get_or items k d, (subst (λ (as_far : List A). Contains as_far (get_or items k d)) (sym (take_more items k d lt)) (Contains-push (take k items) (get_or items k d)), own))
  ],
  λ h. elim h [
    | inl old ↦ (now x).1 (inl ((so_far x).1 (inl old)))
    | inr by ↦ elim (next_item items k d by.0 lt by.1.0) [
      | inl before ↦ (now x).1 (inl ((so_far x).1 (inr (by.0, (before, by.1.1)))))
      | inr same ↦ (now x).1 (inr (subst (λ (a : A). P a x) same by.1.1))
    ]
  ],
)

pub by_all : {A X : Type 0} (items : List A) (k : ℕ) (P : A → X → Type 0) (old new : List X) → length items ≤ k → AddsTo (ByAny (take k items) P) old new → AddsTo (ByAny items P) old new
by_all {A} items k P old new le adds = subst (λ (all : List A). AddsTo (ByAny all P) old new) (take_all k items le) adds
