-- How heavy schemes and selections of rules are.
use Rattle.std.proofs.Common.{◌≡◌, refl, sym, ◌∙◌, ap, subst, ℕ, suc, ◌+◌, ◌≤◌, Bool, true, false, cond, List, [], ◌∷◌, length, map, arith}
use Rattle.std.specs.Prelude.{sum_by}
use Rattle.std.proofs.lemmas.List.Sums.{sum_by-le, sum_by-cons}
use Rattle.hs_scheme.specs.declared.term.Rule.{Rule}
use Rattle.hs_scheme.specs.Scheme.{AreRules}
use Rattle.hs_scheme.specs.sorting.Sorted.{SortedData}
use Rattle.hs_passes.specs.Weight.{params_of, weight}
use Rattle.hs_passes.specs.Selection.{chosen, renamed_rule, selected}
use Rattle.hs_passes.proofs.Choosing.{length-chosen, place-le}
use Rattle.std.proofs.lemmas.List.{length-map}

pub light : (rules : List Rule) (terminals : ℕ) → AreRules rules terminals → (others : List Rule) → others ≡ rules → length others + sum_by params_of others ≤ 1300000
light rules terminals are others e =
    let few = sum_by-le params_of 64 rules are.few_params in
    subst (λ (rs : List Rule). length rs + sum_by params_of rs ≤ 1300000) (sym e) (omega (arith, few, are.few_rules))

sum_by-chosen : {A : Type 0} (f : A → ℕ) (keep : ℕ → Bool) (xs : List A) → sum_by f (chosen keep xs) ≤ sum_by f xs
sum_by-chosen f keep [] = omega arith
sum_by-chosen f keep (x ∷ xs) = by (keep 0) (sum_by-chosen f (λ g. keep (suc g)) xs)
  where
    by : (b : Bool) → sum_by f (chosen (λ g. keep (suc g)) xs) ≤ sum_by f xs
        → sum_by f (cond b (x ∷ chosen (λ g. keep (suc g)) xs) (chosen (λ g. keep (suc g)) xs)) ≤ sum_by f (x ∷ xs)
    by true le = omega (arith, le, sum_by-cons f x xs, sum_by-cons f x (chosen (λ g. keep (suc g)) xs))
    by false le = omega (arith, le, sum_by-cons f x xs)

sum_renamed : (to : ℕ → ℕ) (rules : List Rule) → sum_by params_of (map (renamed_rule to) rules) ≡ sum_by params_of rules
sum_renamed to [] = refl
sum_renamed to (r ∷ rules) =
    sum_by-cons params_of (renamed_rule to r) (map (renamed_rule to) rules) ∙ (ap (λ n. r.params + n) (sum_renamed to rules) ∙ sym (sum_by-cons params_of r rules))

pub selected_lighter : (keep : ℕ → Bool) (to : ℕ → ℕ) (s : SortedData) → weight (selected keep to s) ≤ weight s
selected_lighter keep to s =
    let new = map (renamed_rule to) s.scheme.rules in
    omega (arith, length-chosen keep new, place-le keep (length new), length-map s.scheme.rules (renamed_rule to), sum_by-chosen params_of keep new, sum_renamed to s.scheme.rules)
