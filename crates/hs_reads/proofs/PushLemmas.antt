-- A list of which one is longer by an item.
use Rattle.std.proofs.Common.{◌≡◌, refl, sym, ◌∙◌, ap, subst, ℕ, Bool, true, false, cond, nat_eq, List, [], ◌∷◌, ◌++◌, Contains, inl, inr}
use Rattle.std.proofs.lemmas.Bool.{eq-eqb, eqb-true}
use Rattle.std.proofs.lemmas.List.Elements.{Contains-append_left, Contains-push}
use Rattle.hs_table_laws.proofs.Members.{pushed_cases}
use Rattle.hs_reads.specs.Lists.{list_of, IsPushed}

module _ {T : Type 0} (number : ℕ) (x : T) (old new : List (List T)) (is : IsPushed number x old new) where
  abbrev list_by : Bool → ℕ → List T
  list_by t k = cond t (list_of old k ++ x ∷ []) (list_of old k)

  -- the item is there
  pub pushed_has : Contains (list_of new number) x
  pushed_has = subst (λ ys. Contains ys x) (sym (is.each number ∙ ap (λ t. list_by t number) (eq-eqb number number refl))) (Contains-push (list_of old number) x)

  kept : (t : Bool) (k : ℕ) (y : T) → Contains (list_of old k) y → Contains (list_by t k) y
  kept true k y m = Contains-append_left (list_of old k) (x ∷ []) y m
  kept false k y m = m

  -- all others stay
  pub pushed_keeps : (k : ℕ) (y : T) → Contains (list_of old k) y → Contains (list_of new k) y
  pushed_keeps k y m = subst (λ ys. Contains ys y) (sym (is.each k)) (kept (nat_eq k number) k y m)

  -- and what holds of all at their numbers, and of the item at its own, holds of all
  pub pushed_at : (P : ℕ → T → Type 0) → P number x → ((k : ℕ) (y : T) → Contains (list_of old k) y → P k y) → (k : ℕ) (y : T) → Contains (list_of new k) y → P k y
  pushed_at P own all k y m = by (nat_eq k number) refl
    where
      by : (t : Bool) → nat_eq k number ≡ t → P k y
      by true e = elim (pushed_cases (list_of old k) x y (subst (λ ys. Contains ys y) (is.each k ∙ ap (λ t. list_by t k) e) m)) [
        | inl was ↦ all k y was
        | inr same ↦ subst (P k) (sym same) (subst (λ j. P j x) (sym (eqb-true k number e)) own)
      ]
      by false e = all k y (subst (λ ys. Contains ys y) (is.each k ∙ ap (λ t. list_by t k) e) m)
