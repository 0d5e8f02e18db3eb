-- Where the aliases are folded, a scheme is sorted, and has the same tree; what a scan tells of it.
use Rattle.std.proofs.Common.{◌≡◌, refl, sym, ◌∙◌, ap, ℕ, zero, suc, ◌<◌, ◌≤◌, Bool, true, false, cond, List, length, map, slice_get, Option, Some, None, arith}
use Rattle.std.specs.Prelude.{nat_eq, not}
use Rattle.std.proofs.lemmas.Bool.{eq-eqb, eqb-true}
use Rattle.std.proofs.lemmas.Option.{slice_get_within}
use Rattle.std.proofs.lemmas.List.{length-map}
use Rattle.hs_scheme.specs.declared.term.Rule.{Rule}
use Rattle.hs_scheme.specs.Scheme.{IsScheme}
use Rattle.hs_scheme.specs.sorting.Sorted.{SortedData, IsSorted, sort_at}
use Rattle.hs_scheme.specs.SameTree.{HaveSameTree}
use Rattle.hs_passes.specs.Weight.{weight}
use Rattle.hs_passes.specs.Passing.{KeepsRest}
use Rattle.hs_passes.specs.Occurrences.{mentions}
use Rattle.hs_passes.specs.Selection.{stays, number_in, place, chosen, renamed_rule, selected, IsSelection}
use Rattle.hs_passes.specs.Aliases.{first_alias, without_alias, folded_by, folded, without_aliases}
use Rattle.hs_passes.proofs.AliasLemmas.{alias_at, first_is_alias, alias_selection, alias_tree, same_sort, target_in_range}
use Rattle.hs_passes.proofs.Chaining.{tree_after, rest_after, rest_same}
use Rattle.hs_passes.proofs.Choosing.{chosen-same, place-same}
use Rattle.hs_passes.proofs.FoldedAll.{last, folded_is, scanned_to, targeted}
use Rattle.hs_passes.proofs.Reaching.{mention_in_range}
use Rattle.hs_passes.proofs.Renaming.{of_mentions, renamed-same}
use Rattle.hs_passes.specs.Scan.{stood, target_of, scanned}
use Rattle.hs_passes.proofs.Scanning.{kept_by, number_by}
use Rattle.hs_passes.proofs.Selected.{selected_is_scheme, selected_is_sorted, params_each}
use Rattle.hs_passes.proofs.Unreachable.{rules-same}
use Rattle.hs_passes.proofs.Weights.{selected_lighter}

-- what folding some aliases of s makes
pub record Folds (s t : SortedData) : Type 0 where
  pub scheme : IsScheme t.scheme
  pub sorted : IsSorted t
  pub rest : KeepsRest s t
  pub tree : HaveSameTree s.scheme.ranks s.scheme.rules t.scheme.rules
  pub lighter : weight t ≤ weight s

folds_none : (s : SortedData) → IsScheme s.scheme → IsSorted s → Folds s s
folds_none s scheme sorted = record { scheme = scheme; sorted = sorted; rest = rest_same s; tree = λ ts agree q path. (λ h. h, λ h. h); lighter = omega arith }

folds_one : (s : SortedData) (f g : ℕ) → IsScheme s.scheme → IsSorted s → first_alias s.scheme.rules ≡ Some (f, g) → Folds s (without_alias f g s)
folds_one s f g scheme sorted e =
    let is = first_is_alias s.scheme.rules f g e in
    let keep : ℕ → Bool = λ h. not (nat_eq h f) in
    let to : ℕ → ℕ = λ h. place keep (cond (nat_eq h f) g h) in
    let sel = alias_selection s scheme sorted f g is in
    record {
      scheme = selected_is_scheme keep to s scheme sorted sel;
      sorted = selected_is_sorted keep to s scheme sorted sel;
      rest = record { ranks = refl; automaton = refl; terminal_names = refl; state_names = refl };
      tree = alias_tree s scheme sorted f g is;
      lighter = selected_lighter keep to s;
    }

folds_after : (s t u : SortedData) → Folds s t → Folds t u → Folds s u
folds_after s t u p q = record {
  scheme = q.scheme;
  sorted = q.sorted;
  rest = rest_after s t u p.rest q.rest;
  tree = tree_after s t u p.rest p.tree q.tree;
  lighter = omega (arith, p.lighter, q.lighter);
}

folds_each : (n : ℕ) (s : SortedData) → IsScheme s.scheme → IsSorted s → Folds s (folded n s)
folds_each zero s scheme sorted = folds_none s scheme sorted
folds_each (suc n) s scheme sorted = by (first_alias s.scheme.rules) refl (folds_each n)
  where
    by : (o : Option (ℕ × ℕ)) → first_alias s.scheme.rules ≡ o → ((t : SortedData) → IsScheme t.scheme → IsSorted t → Folds t (folded n t)) → Folds s (folded_by o (folded n) s)
    by None e below = folds_none s scheme sorted
    by (Some a) e below =
        let one = folds_one s a.0 a.1 scheme sorted e in
        folds_after s (without_alias a.0 a.1 s) (folded n (without_alias a.0 a.1 s)) one (below (without_alias a.0 a.1 s) one.scheme one.sorted)

pub folds_all : (s : SortedData) → IsScheme s.scheme → IsSorted s → Folds s (without_aliases s)
unfolding without_aliases
folds_all s scheme sorted = folds_each (length s.scheme.rules) s scheme sorted

-- what stands for a nonterminal is one of the same sort
record KeepsSorts (s : SortedData) (rep : ℕ → ℕ) : Type 0 where
  pub in_range : (h : ℕ) → h < length s.scheme.rules → rep h < length s.scheme.rules
  pub sort : (h : ℕ) → h < length s.scheme.rules → sort_at s.sorts (rep h) ≡ sort_at s.sorts h

module _ (s : SortedData) (scheme : IsScheme s.scheme) (sorted : IsSorted s) where
  abbrev rules : List Rule
  rules = s.scheme.rules

  sorts_on : (rep : ℕ → ℕ) (k : ℕ) → KeepsSorts s rep → (o : Option ℕ) → target_of (suc k) (slice_get rules (suc k)) ≡ o → KeepsSorts s (λ h. stood rep (suc k) o h)
  sorts_on rep k h None e = record { in_range = h.in_range; sort = h.sort }
  sorts_on rep k h (Some g) e =
      let t = targeted (suc k) (slice_get rules (suc k)) g e in
      let is = alias_at rules (suc k) g t.rule (omega arith) t.at t.is in
      let lt = target_in_range s scheme sorted (suc k) g is in
      record {
        in_range = λ i l. range (nat_eq (rep g) (suc k)) (nat_eq (rep i) (suc k)) i (h.in_range i l) (h.in_range g lt);
        sort = λ i l. kept (nat_eq (rep g) (suc k)) (nat_eq (rep i) (suc k)) i refl (h.sort i l) (h.sort g lt ∙ same_sort s scheme sorted (suc k) g is);
      }
    where
      range : (a b : Bool) (i : ℕ) → rep i < length rules → rep g < length rules → cond a (rep i) (cond b (rep g) (rep i)) < length rules
      range true b i p q = p
      range false true i p q = q
      range false false i p q = p

      kept : (a b : Bool) (i : ℕ) → nat_eq (rep i) (suc k) ≡ b → sort_at s.sorts (rep i) ≡ sort_at s.sorts i → sort_at s.sorts (rep g) ≡ sort_at s.sorts (suc k)
          → sort_at s.sorts (cond a (rep i) (cond b (rep g) (rep i))) ≡ sort_at s.sorts i
      kept true b i d p q = p
      kept false true i d p q = q ∙ (ap (sort_at s.sorts) (sym (eqb-true (rep i) (suc k) d)) ∙ p)
      kept false false i d p q = p

  sorts_to : (k : ℕ) → KeepsSorts s (scanned rules k)
  sorts_to zero = record { in_range = λ h lt. lt; sort = λ h lt. refl }
  sorts_to (suc k) = sorts_on (scanned rules k) k (sorts_to k) (target_of (suc k) (slice_get rules (suc k))) refl

  abbrev rep : ℕ → ℕ
  rep = last s

  pub stands_in_range : (h : ℕ) → h < length rules → rep h < length rules
  stands_in_range = (sorts_to (length rules)).in_range

  below : (f g : ℕ) (r : Rule) → slice_get rules f ≡ Some r → mentions g r.body ≡ true → g < length rules
  below f g r at occurs = mention_in_range rules (length s.scheme.ranks) scheme f g r at occurs

  -- what lists tell of which rules stay, and of their numbers
  module _ (kept : List Bool) (numbers : List ℕ) (is : (h : ℕ) → h < length rules → stays kept h ≡ kept_by rep h)
      (told : (h : ℕ) → h < length rules → number_in numbers h ≡ place (stays kept) (rep h)) where
    pub folded_selection : IsSelection (stays kept) (number_in numbers) s
    folded_selection =
        let scan = (scanned_to s (length rules)).scan in
        record {
          start = is 0 (slice_get_within rules 0 scheme.start.0 scheme.start.1.0) ∙ eq-eqb (rep 0) 0 scan.start;
          bodies = λ f r g at stay occurs.
              let lt = below f g r at occurs in
              record {
                rule = rep g;
                in_range = stands_in_range g lt;
                stays = is (rep g) (stands_in_range g lt) ∙ eq-eqb (rep (rep g)) (rep g) (scan.twice g);
                number = told g lt;
                sort = (sorts_to (length rules)).sort g lt;
              };
        }

    number_same : (h : ℕ) → h < length rules → number_in numbers h ≡ number_by rep h
    number_same h lt = told h lt ∙ place-same (stays kept) (kept_by rep) (rep h) (λ f l. is f (omega (arith, l, stands_in_range h lt)))

    chosen_same : {A : Type 0} (xs : List A) → length xs ≡ length rules → chosen (stays kept) xs ≡ chosen (kept_by rep) xs
    chosen_same xs e = chosen-same (stays kept) (kept_by rep) xs (λ f lt. is f (omega (arith, lt, e)))

    pub folded_made : selected (stays kept) (number_in numbers) s ≡ without_aliases s
    folded_made =
        let same : map (renamed_rule (number_in numbers)) rules ≡ map (renamed_rule (number_by rep)) rules =
        rules-same (number_in numbers) (number_by rep) rules
        (λ f r at. renamed-same (number_in numbers) (number_by rep) r.body
        (of_mentions (λ g. number_in numbers g ≡ number_by rep g) r.body (λ g occurs. number_same g (below f g r at occurs)))) in
        (λ j. record {
          scheme = record {
            rules = (ap (chosen (stays kept)) same ∙ chosen_same (map (renamed_rule (number_by rep)) rules) (length-map rules (renamed_rule (number_by rep)))) j;
            ranks = s.scheme.ranks;
          };
          automaton = s.automaton;
          names = record {
            rules = chosen_same s.names.rules sorted.names.each_rule j;
            params = chosen_same s.names.params (params_each s sorted) j;
            terminals = s.names.terminals;
            states = s.names.states;
          };
          sorts = chosen_same s.sorts sorted.each_rule j;
        }) ∙ sym (folded_is s)
