-- With the parameters that stay, a scheme makes the same steps.
use Rattle.std.proofs.Common.{◌≡◌, refl, sym, ◌∙◌, ap, subst, ℕ, zero, suc, true, List, length, map, slice_get, option_map, Some, None, inl, inr}
use Rattle.std.proofs.lemmas.Option.{slice_get-map, slice_get_cases, same_Some}
use Rattle.std.proofs.lemmas.List.{length-map}
use Rattle.hs_scheme.specs.declared.term.Head.{Head}
use Rattle.hs_scheme.specs.declared.term.Head.TheVariants.{Var, Nt, Tm}
use Rattle.hs_scheme.specs.declared.term.Rule.{Rule}
use Rattle.hs_scheme.specs.acceptance.Transition.{TransitionData}
use Rattle.hs_scheme.specs.Tree.{Tree, Trees, node, children}
use Rattle.hs_scheme.specs.acceptance.Replacement.{subst as replacing}
use Rattle.hs_scheme.specs.acceptance.Cut.{body_with, unfolded}
use Rattle.hs_scheme.specs.acceptance.Run.{start}
use Rattle.hs_scheme.specs.Scheme.{IsScheme, TermInRange}
use Rattle.hs_scheme.specs.sorting.Sorting.{Sorts}
use Rattle.hs_scheme.specs.sorting.Sorted.{SortedData, IsSorted, sorts_of, known}
use Rattle.hs_scheme.specs.SameTree.{HaveSameTree}
use Rattle.hs_scheme.specs.acceptance.Steps.{Path, StepsTo, IsChild, HasNoTransition, Fails}
use Rattle.hs_scheme.specs.TreeTerms.{IsTreeTerm, AreSortedBy}
use Rattle.hs_scheme.specs.TreeTerms.{ground as ground_sorts}
use Rattle.hs_scheme.specs.sorting.Unsorted.{AgreesWithRanks}
use Rattle.hs_steps.proofs.Terms.{unfolds_full}
use Rattle.hs_steps.proofs.Sorted.{count, body_in_range, start_sorted, step_sorted}
use Rattle.hs_passes.specs.Selection.{place, chosen}
use Rattle.hs_passes.specs.Leaving.{Keep, chosen_trees, term_left, terms_left, rule_left, by_number, with_parameters}
use Rattle.hs_passes.proofs.Choosing.{length-chosen}
use Rattle.hs_passes.proofs.Remaining.{chosen_trees-all, children-terms_left, children-left, at_number}
use Rattle.hs_passes.proofs.Fitting.{ground, Fits, fits-at, left-subst, fits-subst}
use Rattle.hs_passes.proofs.Simulation.{before}

module _ (keep : Keep) (s : SortedData) (scheme : IsScheme s.scheme) (sorted : IsSorted s) where
  abbrev rules : List Rule
  rules = s.scheme.rules

  abbrev others : List Rule
  others = by_number (λ f. rule_left keep (keep f)) rules

  -- in each body only parameters that stay are needed
  abbrev pub AllFit : Type 0
  AllFit = (f : ℕ) (r : Rule) → slice_get rules f ≡ Some r → Fits keep (keep f) r.body

  module _ (fit : AllFit) (ts : List TransitionData) (agree : AgreesWithRanks (known s.scheme.ranks) ts) where
    abbrev sorts : Sorts
    sorts = sorts_of s.sorts s.scheme.ranks

    are_sorted : AreSortedBy rules (length s.scheme.ranks) (known s.scheme.ranks) ts sorts
    are_sorted = record { are_rules = scheme; sorting = sorted.sorting; agree = agree }

    -- what is left of a term
    abbrev left : Tree Head → Tree Head
    left t = term_left keep ground t

    module _ (f : ℕ) (r : Rule) (us : Trees Head) (at : slice_get rules f ≡ Some r) (is : IsTreeTerm sorts (node (Nt f) us)) (p : Fits keep ground (node (Nt f) us)) where
      all_given : length (children us) ≡ r.params
      all_given = count (ground_sorts sorts) us (sorts.nonterminal f) is ∙ sorted.full f r at

      own_fit : (j : ℕ) (u : Tree Head) → keep f j ≡ true → slice_get (children us) j ≡ Some u → Fits keep ground u
      own_fit j u e there = fits-at keep (keep f) us j u p.1 e there

      replaced_there : unfolded rules f (children us) ≡ Some (replacing r.body (children us))
      replaced_there = unfolds_full rules f r (children us) at all_given

      in_range : TermInRange r.params (length rules) (length s.scheme.ranks) r.body
      in_range = body_in_range rules (length s.scheme.ranks) (known s.scheme.ranks) ts sorts are_sorted f r at

      new_given : length (chosen (keep f) (map left (children us))) ≡ place (keep f) r.params
      new_given = length-chosen (keep f) (map left (children us)) ∙ ap (place (keep f)) (length-map (children us) left ∙ all_given)

      replaced_here : unfolded others f (children (chosen_trees (keep f) (terms_left keep ground us))) ≡ Some (left (replacing r.body (children us)))
      replaced_here =
          ap (unfolded others f) (children-left keep ground (keep f) us)
          ∙ (unfolds_full others f (rule_left keep (keep f) r) (chosen (keep f) (map left (children us)))
          (at_number (λ g. rule_left keep (keep g)) rules f ∙ ap (option_map (rule_left keep (keep f))) at) new_given
          ∙ ap (λ u. Some u) (sym (left-subst keep (keep f) r.params (length rules) (length s.scheme.ranks) (children us) all_given own_fit r.body in_range (fit f r at))))

      fits_there : Fits keep ground (replacing r.body (children us))
      fits_there = fits-subst keep (keep f) r.params (length rules) (length s.scheme.ranks) (children us) all_given own_fit r.body in_range (fit f r at)

    unfolded_left : (f : ℕ) (us : Trees Head) → IsTreeTerm sorts (node (Nt f) us) → Fits keep ground (node (Nt f) us)
        → unfolded others f (children (chosen_trees (keep f) (terms_left keep ground us))) ≡ option_map left (unfolded rules f (children us))
    unfolded_left f us is p = elim (slice_get_cases rules f).1 [
      | inl (r, _, at, _) ↦ replaced_here f r us at is p ∙ sym (ap (option_map left) (replaced_there f r us at is p))
      | inr (_, at) ↦
          ap (λ o. body_with o (children (chosen_trees (keep f) (terms_left keep ground us)))) (at_number (λ g. rule_left keep (keep g)) rules f ∙ ap (option_map (rule_left keep (keep f))) at)
          ∙ sym (ap (λ o. option_map left (body_with o (children us))) at)
    ]

    unfolded_fits : (f : ℕ) (us : Trees Head) (u : Tree Head) → IsTreeTerm sorts (node (Nt f) us) → Fits keep ground (node (Nt f) us) → unfolded rules f (children us) ≡ Some u → Fits keep ground u
    unfolded_fits f us u is p e = elim (slice_get_cases rules f).1 [
      | inl (r, _, at, _) ↦
          subst (Fits keep ground) (same_Some (replacing r.body (children us)) u (sym (replaced_there f r us at is p) ∙ e)) (fits_there f r us at is p)
      | inr (_, at) ↦ let none_there : None ≡ Some u = sym (ap (λ o. body_with o (children us)) at) ∙ e in absurd (cc)
    ]

    over_end : (q : ℕ) (t : Tree Head) → HasNoTransition ts q t → HasNoTransition ts q (left t)
    over_end q (node (Var j) us) h = h
    over_end q (node (Nt f) us) h = h
    over_end q (node (Tm a) us) h = h

    back_end : (q : ℕ) (t : Tree Head) → HasNoTransition ts q (left t) → HasNoTransition ts q t
    back_end q (node (Var j) us) h = h
    back_end q (node (Nt f) us) h = h
    back_end q (node (Tm a) us) h = h

    -- all children of a terminal stay
    all_children : (us : Trees Head) → children (chosen_trees (λ _. true) (terms_left keep ground us)) ≡ map left (children us)
    all_children us = ap children (chosen_trees-all (terms_left keep ground us)) ∙ children-terms_left keep ground us

    child_at : (us : Trees Head) (i : ℕ) → slice_get (children (chosen_trees (λ _. true) (terms_left keep ground us))) i ≡ option_map left (slice_get (children us) i)
    child_at us i = ap (λ vs. slice_get vs i) (all_children us) ∙ slice_get-map left (children us) i

    step_kept : (q p : ℕ) (t u : Tree Head) (label : Path) → StepsTo rules ts q t label p u → IsTreeTerm sorts t → IsTreeTerm sorts u
    step_kept = step_sorted rules (length s.scheme.ranks) (known s.scheme.ranks) ts sorts are_sorted

    pub over : (n q : ℕ) (t : Tree Head) (path : Path) → IsTreeTerm sorts t → Fits keep ground t → Fails rules ts n q t path → Fails others ts n q (left t) path
    over zero q t path is p (e, h) = (e, over_end q t h)
    over (suc n) q (node (Var j) us) path is p l = absurd l.step
    over (suc n) q (node (Nt f) us) path is p l = record {
      label = l.label;
      rest = l.rest;
      state = l.state;
      term = left l.term;
      whole = l.whole;
      step = (l.step.0, l.step.1, unfolded_left f us is p ∙ ap (option_map left) l.step.2);
      holds = over n l.state l.term l.rest (step_kept q l.state (node (Nt f) us) l.term l.label l.step is) (unfolded_fits f us l.term is p l.step.2) l.holds;
    }
    over (suc n) q (node (Tm a) us) path is p l =
        let c = l.step.2 in
        record {
          label = l.label;
          rest = l.rest;
          state = l.state;
          term = left l.term;
          whole = l.whole;
          step = (l.step.0, l.step.1, record { place = c.place; labelled = c.labelled; state = c.state; term = child_at us c.place ∙ ap (option_map left) c.term });
          holds = over n l.state l.term l.rest (step_kept q l.state (node (Tm a) us) l.term l.label l.step is) (fits-at keep (λ _. true) us c.place l.term p.1 refl c.term) l.holds;
        }

    pub back : (n q : ℕ) (t : Tree Head) (path : Path) → IsTreeTerm sorts t → Fits keep ground t → Fails others ts n q (left t) path → Fails rules ts n q t path
    back zero q t path is p (e, h) = (e, back_end q t h)
    back (suc n) q (node (Var j) us) path is p l = absurd l.step
    back (suc n) q (node (Nt f) us) path is p l =
        let b = before left (unfolded rules f (children us)) l.term (sym (unfolded_left f us is p) ∙ l.step.2) in
        record {
          label = l.label;
          rest = l.rest;
          state = l.state;
          term = b.item;
          whole = l.whole;
          step = (l.step.0, l.step.1, b.at);
          holds = back n l.state b.item l.rest (step_kept q l.state (node (Nt f) us) b.item l.label (l.step.0, l.step.1, b.at) is) (unfolded_fits f us b.item is p b.at)
              (subst (λ (v : Tree Head). Fails others ts n l.state v l.rest) (sym b.is) l.holds);
        }
    back (suc n) q (node (Tm a) us) path is p l =
        let c = l.step.2 in
        let b = before left (slice_get (children us) c.place) l.term (sym (child_at us c.place) ∙ c.term) in
        let child : IsChild a l.step.0 (children us) l.label l.state b.item = record { place = c.place; labelled = c.labelled; state = c.state; term = b.at } in
        record {
          label = l.label;
          rest = l.rest;
          state = l.state;
          term = b.item;
          whole = l.whole;
          step = (l.step.0, l.step.1, child);
          holds = back n l.state b.item l.rest (step_kept q l.state (node (Tm a) us) b.item l.label (l.step.0, l.step.1, child) is) (fits-at keep (λ _. true) us c.place b.item p.1 refl b.at)
              (subst (λ (v : Tree Head). Fails others ts n l.state v l.rest) (sym b.is) l.holds);
        }

  -- the start takes no arguments
  module _ (fit : AllFit) (start_open : (i : ℕ) → keep 0 i ≡ true) where
    pub left_same_tree : HaveSameTree s.scheme.ranks rules (with_parameters keep s).scheme.rules
    left_same_tree ts agree q path =
        let is : IsTreeTerm (sorts fit ts agree) start = start_sorted rules (length s.scheme.ranks) (known s.scheme.ranks) ts (sorts fit ts agree) (are_sorted fit ts agree) in
        let p : Fits keep ground start = (λ i le. start_open i, tt) in (
          λ h. (h.0, over fit ts agree h.0 q start path is p h.1),
          λ h. (h.0, back fit ts agree h.0 q start path is p h.1),
        )
