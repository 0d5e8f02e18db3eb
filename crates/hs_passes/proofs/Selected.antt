-- A selection of rules is a sorted scheme.
use Rattle.std.proofs.Common.{◌≡◌, refl, sym, ◌∙◌, ap, subst, ℕ, ◌<◌, ◌≤◌, Bool, true, List, [], ◌∷◌, length, map, get_or, slice_get, option_map, Some, unwrap_or, inl, inr, arith}
use Rattle.std.proofs.lemmas.Option.{slice_get-map, slice_get_within, slice_get_cases, slice_get-get_or, get_or_from_slice_get}
use Rattle.std.proofs.lemmas.List.{length-map}
use Rattle.hs_scheme.specs.declared.term.Rule.{Rule}
use Rattle.hs_scheme.specs.Scheme.{IsScheme, TermInRange}
use Rattle.hs_scheme.specs.sorting.Sorting.{SortTree, o, arrows, behind, arguments, Sorts, heads, HasSort, IsSorting}
use Rattle.hs_scheme.specs.sorting.Sorted.{SortedData, IsSorted, sort_at, sorts_of, known}
use Rattle.hs_passes.specs.Selection.{place, chosen, renamed, renamed_rule, selected, IsSelection}
use Rattle.hs_passes.proofs.Choosing.{length-chosen, map-chosen, place-le, place-lt, chosen-at, origin}
use Rattle.hs_passes.proofs.Renaming.{NamesIn, of_mentions, renamed_sort, renamed_in_range}
use Rattle.hs_passes.proofs.Simulation.{before}

params_renamed : (to : ℕ → ℕ) (rules : List Rule) → map (λ (r : Rule). r.params) (map (renamed_rule to) rules) ≡ map (λ (r : Rule). r.params) rules
params_renamed to [] = refl
params_renamed to (r ∷ rules) = ap (λ ns. r.params ∷ ns) (params_renamed to rules)

pub params_each : (s : SortedData) → IsSorted s → length s.names.params ≡ length s.scheme.rules
params_each s sorted =
    sym (length-map s.names.params (λ ns. length ns)) ∙ (ap (λ (ns : List ℕ). length ns) sorted.names.each_param ∙ length-map s.scheme.rules (λ (r : Rule). r.params))

-- where a rule of a selection comes from
pub record RuleOrigin (keep : ℕ → Bool) (to : ℕ → ℕ) (rules : List Rule) (g : ℕ) (r : Rule) : Type 0 where
  pub from : ℕ
  pub rule : Rule
  pub kept : keep from ≡ true
  pub at : slice_get rules from ≡ Some rule
  pub number : place keep from ≡ g
  pub is : renamed_rule to rule ≡ r

pub rule_origin : (keep : ℕ → Bool) (to : ℕ → ℕ) (rules : List Rule) (g : ℕ) (r : Rule) → slice_get (chosen keep (map (renamed_rule to) rules)) g ≡ Some r → RuleOrigin keep to rules g r
rule_origin keep to rules g r at =
    let f = origin keep (map (renamed_rule to) rules) g r at in
    let b = before (renamed_rule to) (slice_get rules f.from) r (sym (slice_get-map (renamed_rule to) rules f.from) ∙ f.at) in
    record { from = f.from; rule = b.item; kept = f.kept; at = b.at; number = f.is; is = b.is }

module _ (keep : ℕ → Bool) (to : ℕ → ℕ) (s : SortedData) (scheme : IsScheme s.scheme) (sorted : IsSorted s) (is : IsSelection keep to s) where
  abbrev rules : List Rule
  rules = s.scheme.rules

  abbrev new : List Rule
  new = chosen keep (map (renamed_rule to) rules)

  abbrev sorts : List SortTree
  sorts = chosen keep s.sorts

  pub length-new : length new ≡ place keep (length rules)
  length-new = length-chosen keep (map (renamed_rule to) rules) ∙ ap (place keep) (length-map rules (renamed_rule to))

  sort_there : (f : ℕ) → f < length rules → keep f ≡ true → sort_at sorts (place keep f) ≡ sort_at s.sorts f
  sort_there f lt kept = elim (slice_get_cases s.sorts f).1 [
    | inl (k, _, at, _) ↦ ap (λ x. unwrap_or x o) (chosen-at keep s.sorts f k kept at ∙ sym at)
    | inr (past, _) ↦ absurd (omega (arith, past, lt, sorted.each_rule))
  ]

  -- of a mentioned nonterminal the new sort is the old one
  names_sorted : (f : ℕ) (r : Rule) → slice_get rules f ≡ Some r → keep f ≡ true → NamesIn (λ h. sort_at sorts (to h) ≡ sort_at s.sorts h) r.body
  names_sorted f r at kept =
      of_mentions (λ h. sort_at sorts (to h) ≡ sort_at s.sorts h) r.body
      (λ g occurs. let h = is.bodies f r g at kept occurs in ap (sort_at sorts) h.number ∙ (sort_there h.rule h.in_range h.stays ∙ h.sort))

  names_in_range : (f : ℕ) (r : Rule) → slice_get rules f ≡ Some r → keep f ≡ true → NamesIn (λ h. to h < length new) r.body
  names_in_range f r at kept =
      of_mentions (λ h. to h < length new) r.body
      (λ g occurs. let h = is.bodies f r g at kept occurs in omega (arith, h.number, length-new, place-lt keep h.rule (length rules) h.stays h.in_range))

  pub rule_there : (f : ℕ) (r : Rule) → keep f ≡ true → slice_get rules f ≡ Some r → slice_get new (place keep f) ≡ Some (renamed_rule to r)
  rule_there f r kept at =
      chosen-at keep (map (renamed_rule to) rules) f (renamed_rule to r) kept (slice_get-map (renamed_rule to) rules f ∙ ap (option_map (renamed_rule to)) at)

  rule_in_range : (f : ℕ) (r : Rule) → slice_get rules f ≡ Some r → TermInRange r.params (length rules) (length s.scheme.ranks) r.body
  rule_in_range f r at =
      subst (λ (k : Rule). TermInRange k.params (length rules) (length s.scheme.ranks) k.body) (get_or_from_slice_get rules f r r at) (scheme.bodies f r (slice_get_within rules f r at))

  pub selected_is_scheme : IsScheme (selected keep to s).scheme
  selected_is_scheme = record {
    start = (renamed_rule to scheme.start.0, (rule_there 0 scheme.start.0 is.start scheme.start.1.0, scheme.start.1.1));
    bodies = λ k d lt. in_range k (get_or new k d) (slice_get-get_or new k d lt);
    few_rules = omega (arith, length-new, place-le keep (length rules), scheme.few_rules);
    few_params = λ k d lt. few k (get_or new k d) (slice_get-get_or new k d lt);
  }
    where
      in_range : (g : ℕ) (r : Rule) → slice_get new g ≡ Some r → TermInRange r.params (length new) (length s.scheme.ranks) r.body
      in_range g r at =
          let f = rule_origin keep to rules g r at in
          subst (λ (k : Rule). TermInRange k.params (length new) (length s.scheme.ranks) k.body) f.is
          (renamed_in_range to f.rule.params (length rules) (length new) (length s.scheme.ranks) f.rule.body (names_in_range f.from f.rule f.at f.kept) (rule_in_range f.from f.rule f.at))

      few : (g : ℕ) (r : Rule) → slice_get new g ≡ Some r → r.params ≤ 64
      few g r at =
          let f = rule_origin keep to rules g r at in
          let own : f.rule.params ≤ 64 = subst (λ (k : Rule). k.params ≤ 64) (get_or_from_slice_get rules f.from f.rule f.rule f.at) (scheme.few_params f.from f.rule (slice_get_within rules f.from f.rule f.at)) in
          subst (λ (k : Rule). k.params ≤ 64) f.is own

  abbrev new_sorts : Sorts
  new_sorts = sorts_of sorts s.scheme.ranks

  abbrev old_sorts : Sorts
  old_sorts = sorts_of s.sorts s.scheme.ranks

  same_sort : (g : ℕ) (r : Rule) (f : RuleOrigin keep to rules g r) → sort_at sorts g ≡ sort_at s.sorts f.from
  same_sort g r f = ap (sort_at sorts) (sym f.number) ∙ sort_there f.from (slice_get_within rules f.from f.rule f.at) f.kept

  new_sorting : IsSorting new (known s.scheme.ranks) (length new) new_sorts
  new_sorting = record {
    nonterminals = λ g r at.
        let f = rule_origin keep to rules g r at in
        let P : SortTree → Rule → Type 0 = λ k q. k ≡ arrows q.params (λ j. sort_at (arguments k) j) (behind q.params k) in
        subst (P (sort_at sorts g)) f.is (subst (λ (k : SortTree). P k f.rule) (sym (same_sort g r f)) (sorted.sorting.nonterminals f.from f.rule f.at));
    bodies = λ g r lt at.
        let f = rule_origin keep to rules g r at in
        let e : sort_at sorts g ≡ sort_at s.sorts f.from = same_sort g r f in
        subst (λ (q : Rule). HasSort (heads new_sorts g) q.body (behind q.params (sort_at sorts g))) f.is
        (subst (λ (k : SortTree). HasSort (heads new_sorts g) (renamed to f.rule.body) (behind f.rule.params k)) (sym e)
        (renamed_sort to (heads old_sorts f.from) (heads new_sorts g) f.rule.body (behind f.rule.params (sort_at s.sorts f.from))
        (names_sorted f.from f.rule f.at f.kept) (λ j. ap (λ k. sort_at (arguments k) j) e) (λ a. refl)
        (sorted.sorting.bodies f.from f.rule (slice_get_within rules f.from f.rule f.at) f.at)));
    start = sort_there 0 (slice_get_within rules 0 scheme.start.0 scheme.start.1.0) is.start ∙ sorted.sorting.start;
    terminals = sorted.sorting.terminals;
  }

  pub selected_is_sorted : IsSorted (selected keep to s)
  selected_is_sorted = record {
    each_rule = length-chosen keep s.sorts ∙ (ap (place keep) sorted.each_rule ∙ sym length-new);
    sorting = new_sorting;
    full = λ g r at.
        let f = rule_origin keep to rules g r at in
        ap (λ k. length (arguments k)) (same_sort g r f) ∙ (sorted.full f.from f.rule f.at ∙ ap (λ (q : Rule). q.params) f.is);
    ranks = sorted.ranks;
    names = record {
      each_rule = length-chosen keep s.names.rules ∙ (ap (place keep) sorted.names.each_rule ∙ sym length-new);
      each_param =
          map-chosen (λ ns. length ns) keep s.names.params
          ∙ (ap (chosen keep) sorted.names.each_param
          ∙ (ap (chosen keep) (sym (params_renamed to rules)) ∙ sym (map-chosen (λ (r : Rule). r.params) keep (map (renamed_rule to) rules))));
      each_terminal = sorted.names.each_terminal;
      each_state = sorted.names.each_state;
    };
  }
