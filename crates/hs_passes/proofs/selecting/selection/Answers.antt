use Rattle.std.proofs.Common.{◌≡◌, sym, ◌∙◌, ap, subst, length}
use Rattle.hs_scheme.specs.Scheme.{IsScheme}
use Rattle.hs_scheme.specs.sorting.Sorted.{SortedData, IsSorted}
use Rattle.hs_passes.specs.Selection.{stays, number_in, chosen, selected, selected_scheme, selected_names}
use Rattle.hs_passes.proofs.Selected.{params_each, selected_is_scheme, selected_is_sorted}
use Rattle.hs_passes.proofs.selecting.selection.Goals as goal

pub chosen_scheme-requires-clause-fits : goal.chosen_scheme-requires-clause-fits
chosen_scheme-requires-clause-fits c =
    let keep = stays c.args.keep.now in
    let to = number_in c.args.numbers.now in
    subst (λ (s : SortedData). IsScheme (selected_scheme keep to s.scheme)) (sym c.sorted.view_is)
    (selected_is_scheme keep to c.args.sorted.now c.is_sorted.ensures.scheme c.is_sorted.ensures.sorted c.requires.selection)

pub names_left-requires-clause-params : goal.names_left-requires-clause-params
names_left-requires-clause-params c =
    subst (λ (s : SortedData). length c.args.keep.now ≡ length s.names.params) (sym c.sorted.view_is)
    (c.requires.each ∙ sym (params_each c.args.sorted.now c.is_sorted.ensures.sorted))

pub invariant_of-result : goal.invariant_of-result
invariant_of-result c =
    let keep = stays c.args.keep.now in
    let to = number_in c.args.numbers.now in
    let made : record {
      scheme = c.in_ok-scheme.scheme;
      automaton = c.in_ok-automaton.automaton;
      names = c.in_ok-names.names;
      sorts = c.in_ok-sorts.sorts.items;
    } ≡ selected keep to c.args.sorted.now =
    λ j. record {
      scheme = (c.in_ok-scheme.ensures ∙ ap (λ (s : SortedData). selected_scheme keep to s.scheme) c.sorted.view_is) j;
      automaton = (c.in_ok-automaton.ensures ∙ ap (λ (s : SortedData). s.automaton) c.sorted.view_is) j;
      names = (c.in_ok-names.ensures ∙ ap (λ (s : SortedData). selected_names keep s.names) c.sorted.view_is) j;
      sorts = (c.in_ok-sorts.ensures ∙ ap (chosen keep) (c.as_slice.ensures.value ∙ ap (λ (s : SortedData). s.sorts) c.sorted.view_is)) j;
    } in
    subst IsSorted (sym made) (selected_is_sorted keep to c.args.sorted.now c.is_sorted.ensures.scheme c.is_sorted.ensures.sorted c.requires.selection)

pub returns : goal.returns
returns c =
    let keep = stays c.args.keep.now in
    let to = number_in c.args.numbers.now in
    λ j. record {
      scheme = (c.in_ok-scheme.ensures ∙ ap (λ (s : SortedData). selected_scheme keep to s.scheme) c.sorted.view_is) j;
      automaton = (c.in_ok-automaton.ensures ∙ ap (λ (s : SortedData). s.automaton) c.sorted.view_is) j;
      names = (c.in_ok-names.ensures ∙ ap (λ (s : SortedData). selected_names keep s.names) c.sorted.view_is) j;
      sorts = (c.in_ok-sorts.ensures ∙ ap (chosen keep) (c.as_slice.ensures.value ∙ ap (λ (s : SortedData). s.sorts) c.sorted.view_is)) j;
    }
