use Rattle.std.proofs.Common.{◌≡◌, ◌≤◌, sym, ◌∙◌, ap, subst, length, arith}
use Rattle.hs_scheme.specs.Scheme.{IsScheme}
use Rattle.hs_scheme.specs.sorting.Sorted.{SortedData, IsSorted}
use Rattle.hs_passes.specs.Leaving.{by_number, scheme_left, all_names_left, sort_left, with_parameters}
use Rattle.hs_passes.specs.Needing.{kept}
use Rattle.hs_passes.proofs.Selected.{params_each}
use Rattle.hs_passes.proofs.LeftSorted.{left_is_scheme, left_is_sorted}
use Rattle.hs_passes.proofs.UnusedAll.{reached_fits, greatest_reached, stays_is}
use Rattle.hs_passes.proofs.leaving.with_parameters.Goals as goal

pub scheme_left-requires-clause-fits : goal.scheme_left-requires-clause-fits
scheme_left-requires-clause-fits c =
    let keep = kept c.args.parameters.now c.args.flags.now in
    let s = c.args.sorted.now in
    subst (λ (t : SortedData). IsScheme (scheme_left keep t.scheme)) (sym c.sorted.view_is)
    (left_is_scheme keep s c.is_sorted.ensures.scheme c.is_sorted.ensures.sorted (reached_fits s keep (greatest_reached s keep c.requires)))

pub all_names_left-requires : goal.all_names_left-requires
all_names_left-requires c =
    let s = c.args.sorted.now in
    subst (λ (t : SortedData). length t.names.params ≤ 20000) (sym c.sorted.view_is)
    (omega (arith, params_each s c.is_sorted.ensures.sorted, c.is_sorted.ensures.scheme.few_rules))

pub invariant_of-result : goal.invariant_of-result
invariant_of-result c =
    let keep = kept c.args.parameters.now c.args.flags.now in
    let s = c.args.sorted.now in
    let made : record {
      scheme = c.in_ok-scheme.scheme;
      automaton = c.in_ok-automaton.automaton;
      names = c.in_ok-names.names;
      sorts = c.in_ok-sorts.sorts.items;
    } ≡ with_parameters keep s =
    λ j. record {
      scheme = (c.in_ok-scheme.ensures ∙ ap (λ (t : SortedData). scheme_left keep t.scheme) c.sorted.view_is) j;
      automaton = (c.in_ok-automaton.ensures ∙ ap (λ (t : SortedData). t.automaton) c.sorted.view_is) j;
      names = (c.in_ok-names.ensures ∙ ap (λ (t : SortedData). all_names_left keep t.names) c.sorted.view_is) j;
      sorts = (c.in_ok-sorts.ensures ∙ ap (by_number (λ f. sort_left (keep f))) (c.as_slice.ensures.value ∙ ap (λ (t : SortedData). t.sorts) c.sorted.view_is)) j;
    } in
    subst IsSorted (sym made) (left_is_sorted keep s c.is_sorted.ensures.scheme c.is_sorted.ensures.sorted (reached_fits s keep (greatest_reached s keep c.requires)))

pub returns : goal.returns
returns c =
    let keep = kept c.args.parameters.now c.args.flags.now in
    let s = c.args.sorted.now in
    let made : record {
      scheme = c.in_ok-scheme.scheme;
      automaton = c.in_ok-automaton.automaton;
      names = c.in_ok-names.names;
      sorts = c.in_ok-sorts.sorts.items;
    } ≡ with_parameters keep s =
    λ j. record {
      scheme = (c.in_ok-scheme.ensures ∙ ap (λ (t : SortedData). scheme_left keep t.scheme) c.sorted.view_is) j;
      automaton = (c.in_ok-automaton.ensures ∙ ap (λ (t : SortedData). t.automaton) c.sorted.view_is) j;
      names = (c.in_ok-names.ensures ∙ ap (λ (t : SortedData). all_names_left keep t.names) c.sorted.view_is) j;
      sorts = (c.in_ok-sorts.ensures ∙ ap (by_number (λ f. sort_left (keep f))) (c.as_slice.ensures.value ∙ ap (λ (t : SortedData). t.sorts) c.sorted.view_is)) j;
    } in
    made ∙ sym (stays_is s keep c.requires)
