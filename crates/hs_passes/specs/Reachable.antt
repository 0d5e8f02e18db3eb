-- The rules that the start needs.
--     IsReachable             a chain of occurrences in bodies leads from the start to the nonterminal
--     mentioned_by            it occurs in the body of one of these rules
--     reached n               a chain of at most n occurrences leads there
--     is_reachable            the same as IsReachable, as a test: no chain needs more occurrences than there are rules
--     without_unreachable     the scheme without the other rules
use Rattle.std.specs.Prelude.{◌≡◌, ℕ, zero, suc, Bool, true, false, ◌||◌, ◌&&◌, nat_eq, List, [], ◌∷◌, length, slice_get, Some}
use Rattle.hs_scheme.specs.declared.term.Rule.{Rule}
use Rattle.hs_scheme.specs.sorting.Sorted.{SortedData}
use Rattle.hs_passes.specs.Occurrences.{mentions}
use Rattle.hs_passes.specs.Selection.{place, selected}

pub data IsReachable (rules : List Rule) : ℕ → Type 0 where
  from_start : IsReachable rules 0
  from_body : (f g : ℕ) (r : Rule) → IsReachable rules f → slice_get rules f ≡ Some r → mentions g r.body ≡ true → IsReachable rules g

-- among the rules, whose numbers the set tells
abbrev pub mentioned_by : ℕ → (ℕ → Bool) → List Rule → Bool
mentioned_by g set [] = false
mentioned_by g set (r ∷ rules) = (set 0 && mentions g r.body) || mentioned_by g (λ f. set (suc f)) rules

abbrev pub reached : List Rule → ℕ → ℕ → Bool
reached rules zero g = nat_eq g 0
reached rules (suc n) g = reached rules n g || mentioned_by g (reached rules n) rules

unfoldable pub is_reachable : List Rule → ℕ → Bool
is_reachable rules g = reached rules (length rules) g

abbrev pub without_unreachable : SortedData → SortedData
without_unreachable s = let keep = is_reachable s.scheme.rules in selected keep (place keep) s
