use Rattle.std.proofs.Common.{◌≡◌, ◌<◌, sym, ◌∙◌, ap, subst, ℕ, length, arith}
use Rattle.std.specs.Prelude.{nat_eq}
use Rattle.std.proofs.lemmas.Result.{IfOk-weaker}
use Rattle.hs_scheme.specs.sorting.Sorted.{SortedData}
use Rattle.hs_passes.specs.Aliases.{without_aliases}
use Rattle.hs_passes.specs.Scan.{scanned}
use Rattle.hs_passes.specs.Selection.{stays, number_in, place, selected}
use Rattle.hs_passes.proofs.FoldedAll.{last}
use Rattle.hs_passes.proofs.Folds.{stands_in_range, folded_selection, folded_made}
use Rattle.hs_passes.proofs.Scanning.{kept_by}
use Rattle.hs_passes.proofs.fold_aliases.folded.Goals as goal

pub places-requires : goal.places-requires
places-requires c =
    omega (arith, c.as_slice-2.ensures.len, c.in_ok-kept.ensures.each, c.as_slice.ensures.len, c.in_ok-reps.ensures.each, ap (λ (t : SortedData). length t.scheme.rules) c.sorted.view_is, c.is_sorted.ensures.scheme.few_rules)

pub selection-requires-clause-each : goal.selection-requires-clause-each
selection-requires-clause-each c =
    omega (arith, c.as_slice-5.ensures.len, c.in_ok-kept.ensures.each, c.as_slice.ensures.len, c.in_ok-reps.ensures.each, ap (λ (t : SortedData). length t.scheme.rules) c.sorted.view_is)

pub selection-requires-clause-selection : goal.selection-requires-clause-selection
selection-requires-clause-selection c =
    let s = c.args.sorted.now in
    let kept = c.as_slice-5.result.now in
    let numbers = c.as_slice-6.result.now in
    let reps = c.in_ok-reps.reps.items in
    let size : c.in_ok-reps.reps.len ≡ length s.scheme.rules = c.in_ok-reps.ensures.each ∙ ap (λ (t : SortedData). length t.scheme.rules) c.sorted.view_is in
    let rep_is = subst (λ (t : SortedData). (h : ℕ) → h < length t.scheme.rules → number_in reps h ≡ scanned t.scheme.rules (length t.scheme.rules) h) c.sorted.view_is c.in_ok-reps.ensures.is in
    let is : (h : ℕ) → h < length s.scheme.rules → stays kept h ≡ kept_by (last s) h =
    λ h lt. ap (λ k. stays k h) c.as_slice-5.ensures.value
    ∙ (c.in_ok-kept.ensures.is h (omega (arith, lt, size, c.as_slice.ensures.len))
    ∙ (ap (λ k. nat_eq (number_in k h) h) c.as_slice.ensures.value ∙ ap (λ m. nat_eq m h) (rep_is h lt))) in
    let told : (h : ℕ) → h < length s.scheme.rules → number_in numbers h ≡ place (stays kept) (last s h) =
    λ h lt. ap (λ k. number_in k h) c.as_slice-6.ensures.value
    ∙ (c.in_ok-numbers.ensures.is h (omega (arith, lt, size, c.as_slice-3.ensures.len))
    ∙ ((λ j. number_in (c.as_slice-4.ensures.value j) ((ap (λ k. number_in k h) c.as_slice-3.ensures.value ∙ rep_is h lt) j))
    ∙ (c.in_ok-places.ensures.is (last s h)
    (omega (arith, stands_in_range s c.is_sorted.ensures.scheme c.is_sorted.ensures.sorted h lt, size, c.as_slice.ensures.len, c.in_ok-kept.ensures.each, c.as_slice-2.ensures.len))
    ∙ ap (λ k. place (stays k) (last s h)) (c.as_slice-2.ensures.value ∙ sym c.as_slice-5.ensures.value)))) in
    folded_selection s c.is_sorted.ensures.scheme c.is_sorted.ensures.sorted kept numbers is told

pub returns : goal.returns
returns c =
    let s = c.args.sorted.now in
    let kept = c.as_slice-5.result.now in
    let numbers = c.as_slice-6.result.now in
    let reps = c.in_ok-reps.reps.items in
    let size : c.in_ok-reps.reps.len ≡ length s.scheme.rules = c.in_ok-reps.ensures.each ∙ ap (λ (t : SortedData). length t.scheme.rules) c.sorted.view_is in
    let rep_is = subst (λ (t : SortedData). (h : ℕ) → h < length t.scheme.rules → number_in reps h ≡ scanned t.scheme.rules (length t.scheme.rules) h) c.sorted.view_is c.in_ok-reps.ensures.is in
    let is : (h : ℕ) → h < length s.scheme.rules → stays kept h ≡ kept_by (last s) h =
    λ h lt. ap (λ k. stays k h) c.as_slice-5.ensures.value
    ∙ (c.in_ok-kept.ensures.is h (omega (arith, lt, size, c.as_slice.ensures.len))
    ∙ (ap (λ k. nat_eq (number_in k h) h) c.as_slice.ensures.value ∙ ap (λ m. nat_eq m h) (rep_is h lt))) in
    let told : (h : ℕ) → h < length s.scheme.rules → number_in numbers h ≡ place (stays kept) (last s h) =
    λ h lt. ap (λ k. number_in k h) c.as_slice-6.ensures.value
    ∙ (c.in_ok-numbers.ensures.is h (omega (arith, lt, size, c.as_slice-3.ensures.len))
    ∙ ((λ j. number_in (c.as_slice-4.ensures.value j) ((ap (λ k. number_in k h) c.as_slice-3.ensures.value ∙ rep_is h lt) j))
    ∙ (c.in_ok-places.ensures.is (last s h)
    (omega (arith, stands_in_range s c.is_sorted.ensures.scheme c.is_sorted.ensures.sorted h lt, size, c.as_slice.ensures.len, c.in_ok-kept.ensures.each, c.as_slice-2.ensures.len))
    ∙ ap (λ k. place (stays k) (last s h)) (c.as_slice-2.ensures.value ∙ sym c.as_slice-5.ensures.value)))) in
    IfOk-weaker c.selection.result (λ t. t ≡ selected (stays kept) (number_in numbers) s) (λ t. t ≡ without_aliases s)
    (λ t e. e ∙ folded_made s c.is_sorted.ensures.scheme c.is_sorted.ensures.sorted kept numbers is told) c.selection.ensures
