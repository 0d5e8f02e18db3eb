-- Without the rules that the start doesn't need, a scheme is sorted and has the same tree.
use Rattle.std.proofs.Common.{◌≡◌, refl, sym, ◌∙◌, ap, subst, ℕ, suc, ◌<◌, ◌≤◌, Bool, true, List, [], ◌∷◌, length, map, slice_get, option_map, Some, ◌⊎◌, inl, inr, arith}
use Rattle.std.proofs.lemmas.Option.{slice_get_within, slice_get_cases}
use Rattle.hs_scheme.specs.declared.term.Rule.{Rule}
use Rattle.hs_scheme.specs.Scheme.{IsScheme}
use Rattle.hs_scheme.specs.sorting.Sorted.{SortedData, IsSorted}
use Rattle.hs_scheme.specs.SameTree.{HaveSameTree}
use Rattle.hs_scheme.specs.acceptance.Run.{start}
use Rattle.hs_passes.specs.Occurrences.{mentions}
use Rattle.hs_passes.specs.Selection.{stays, number_in, place, chosen, renamed, renamed_rule, selected, IsSelection}
use Rattle.hs_passes.specs.Reachable.{from_start, from_body, is_reachable, without_unreachable}
use Rattle.hs_passes.specs.Weight.{weight}
use Rattle.hs_passes.proofs.Weights.{selected_lighter}
use Rattle.hs_passes.proofs.Choosing.{chosen-at}
use Rattle.hs_passes.proofs.Renaming.{NamesIn, of_mentions, renamed-same}
use Rattle.hs_passes.proofs.Reaching.{mention_in_range, reachable_reached, reached_reachable}
use Rattle.hs_passes.proofs.Simulation.{Alike, Alias, over, back}
use Rattle.std.proofs.lemmas.Option.{slice_get-map}

pub rules-same : (to other : ℕ → ℕ) (rules : List Rule) → ((f : ℕ) (r : Rule) → slice_get rules f ≡ Some r → renamed to r.body ≡ renamed other r.body) → map (renamed_rule to) rules ≡ map (renamed_rule other) rules
rules-same to other [] same = refl
rules-same to other (r ∷ rules) same =
    λ i. record { params = r.params; body = same 0 r refl i } ∷ rules-same to other rules (λ f q at. same (suc f) q at) i

module _ (s : SortedData) (scheme : IsScheme s.scheme) (sorted : IsSorted s) where
  abbrev rules : List Rule
  rules = s.scheme.rules

  abbrev keep : ℕ → Bool
  keep = is_reachable rules

  start_kept : keep 0 ≡ true
  start_kept = reachable_reached rules (length s.scheme.ranks) scheme 0 from_start

  kept_below : (f g : ℕ) (r : Rule) → slice_get rules f ≡ Some r → keep f ≡ true → mentions g r.body ≡ true → keep g ≡ true
  kept_below f g r at kept occurs =
      reachable_reached rules (length s.scheme.ranks) scheme g (from_body f g r (reached_reachable rules (length s.scheme.ranks) scheme f kept) at occurs)

  below : (f g : ℕ) (r : Rule) → slice_get rules f ≡ Some r → mentions g r.body ≡ true → g < length rules
  below f g r at occurs = mention_in_range rules (length s.scheme.ranks) scheme f g r at occurs

  module _ (kept : List Bool) (numbers : List ℕ) (is : (f : ℕ) → stays kept f ≡ keep f)
      (told : (f : ℕ) → f < length rules → number_in numbers f ≡ place (stays kept) f) where
    pub is_selection : IsSelection (stays kept) (number_in numbers) s
    is_selection = record {
      start = is 0 ∙ start_kept;
      bodies = λ f r g at stay occurs. record {
        rule = g;
        in_range = below f g r at occurs;
        stays = is g ∙ kept_below f g r at (sym (is f) ∙ stay) occurs;
        number = told g (below f g r at occurs);
        sort = refl;
      };
    }

    pub made_is : selected (stays kept) (number_in numbers) s ≡ without_unreachable s
    made_is =
        let same : map (renamed_rule (number_in numbers)) rules ≡ map (renamed_rule (place keep)) rules =
        rules-same (number_in numbers) (place keep) rules
        (λ f r at. renamed-same (number_in numbers) (place keep) r.body
        (of_mentions (λ g. number_in numbers g ≡ place keep g) r.body (λ g occurs. told g (below f g r at occurs) ∙ λ j. place (λ h. is h j) g))) in
        λ j. record {
          scheme = record { rules = chosen (λ f. is f j) (same j); ranks = s.scheme.ranks };
          automaton = s.automaton;
          names = record {
            rules = chosen (λ f. is f j) s.names.rules;
            params = chosen (λ f. is f j) s.names.params;
            terminals = s.names.terminals;
            states = s.names.states;
          };
          sorts = chosen (λ f. is f j) s.sorts;
        }

  abbrev Needed : ℕ → Type 0
  Needed f = (keep f ≡ true) × (f < length rules)

  abbrev others : List Rule
  others = (without_unreachable s).scheme.rules

  alike : (f : ℕ) → Needed f → Alike rules others (place keep) f ⊎ Alias rules others (place keep) Needed f
  alike f need = elim (slice_get_cases rules f).1 [
    | inl (r, _, at, _) ↦
        inl (chosen-at keep (map (renamed_rule (place keep)) rules) f (renamed_rule (place keep) r) need.0 (slice_get-map (renamed_rule (place keep)) rules f ∙ ap (option_map (renamed_rule (place keep))) at)
        ∙ ap (option_map (renamed_rule (place keep))) (sym at))
    | inr (past, _) ↦ absurd (omega (arith, past, need.1))
  ]

  needed_body : (f : ℕ) (r : Rule) → Needed f → slice_get rules f ≡ Some r → NamesIn Needed r.body
  needed_body f r need at = of_mentions Needed r.body (λ g occurs. (kept_below f g r at need.0 occurs, below f g r at occurs))

  pub same_tree : HaveSameTree s.scheme.ranks rules others
  same_tree ts agree q path =
      let first : Needed 0 = (start_kept, slice_get_within rules 0 scheme.start.0 scheme.start.1.0) in (
        λ h. over rules others (place keep) Needed needed_body alike ts h.0 q start path (first, tt) h.1,
        λ h. back rules others (place keep) Needed needed_body alike ts h.0 q start path (first, tt) h.1,
      )

pub unreachable_lighter : (s t : SortedData) → t ≡ without_unreachable s → weight t ≤ weight s
unreachable_lighter s t e =
    let keep = is_reachable s.scheme.rules in
    subst (λ (u : SortedData). weight u ≤ weight s) (sym e) (selected_lighter keep (place keep) s)
