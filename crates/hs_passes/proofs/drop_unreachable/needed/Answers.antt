use Rattle.std.proofs.Common.{◌≡◌, ◌<◌, sym, ◌∙◌, ap, ℕ, length, arith}
use Rattle.std.proofs.lemmas.Result.{IfOk-weaker}
use Rattle.hs_scheme.specs.sorting.Sorted.{SortedData}
use Rattle.hs_passes.specs.Selection.{stays, number_in, place, selected}
use Rattle.hs_passes.specs.Reachable.{is_reachable, without_unreachable}
use Rattle.hs_passes.proofs.Unreachable.{is_selection, made_is}
use Rattle.hs_passes.proofs.drop_unreachable.needed.Goals as goal

pub places-requires : goal.places-requires
places-requires c =
    omega (arith, c.as_slice.ensures.len, c.in_ok-kept.ensures.each, ap (λ (s : SortedData). length s.scheme.rules) c.sorted.view_is, c.is_sorted.ensures.scheme.few_rules)

pub selection-requires-clause-selection : goal.selection-requires-clause-selection
selection-requires-clause-selection c =
    let s = c.args.sorted.now in
    let kept = c.as_slice-2.result.now in
    let numbers = c.as_slice-3.result.now in
    let is : (f : ℕ) → stays kept f ≡ is_reachable s.scheme.rules f =
    λ f. ap (λ k. stays k f) c.as_slice-2.ensures.value ∙ (c.in_ok-kept.ensures.is f ∙ ap (λ (t : SortedData). is_reachable t.scheme.rules f) c.sorted.view_is) in
    let long : length c.as_slice.result.now ≡ length s.scheme.rules =
    c.as_slice.ensures.len ∙ (c.in_ok-kept.ensures.each ∙ ap (λ (t : SortedData). length t.scheme.rules) c.sorted.view_is) in
    let told : (f : ℕ) → f < length s.scheme.rules → number_in numbers f ≡ place (stays kept) f =
    λ f lt. ap (λ k. number_in k f) c.as_slice-3.ensures.value
    ∙ (c.in_ok-numbers.ensures.is f (omega (arith, lt, long)) ∙ ap (λ k. place (stays k) f) (c.as_slice.ensures.value ∙ sym c.as_slice-2.ensures.value)) in
    is_selection s c.is_sorted.ensures.scheme c.is_sorted.ensures.sorted kept numbers is told

pub returns : goal.returns
returns c =
    let s = c.args.sorted.now in
    let kept = c.as_slice-2.result.now in
    let numbers = c.as_slice-3.result.now in
    let is : (f : ℕ) → stays kept f ≡ is_reachable s.scheme.rules f =
    λ f. ap (λ k. stays k f) c.as_slice-2.ensures.value ∙ (c.in_ok-kept.ensures.is f ∙ ap (λ (t : SortedData). is_reachable t.scheme.rules f) c.sorted.view_is) in
    let long : length c.as_slice.result.now ≡ length s.scheme.rules =
    c.as_slice.ensures.len ∙ (c.in_ok-kept.ensures.each ∙ ap (λ (t : SortedData). length t.scheme.rules) c.sorted.view_is) in
    let told : (f : ℕ) → f < length s.scheme.rules → number_in numbers f ≡ place (stays kept) f =
    λ f lt. ap (λ k. number_in k f) c.as_slice-3.ensures.value
    ∙ (c.in_ok-numbers.ensures.is f (omega (arith, lt, long)) ∙ ap (λ k. place (stays k) f) (c.as_slice.ensures.value ∙ sym c.as_slice-2.ensures.value)) in
    IfOk-weaker c.selection.result (λ t. t ≡ selected (stays kept) (number_in numbers) s) (λ t. t ≡ without_unreachable s) (λ t e. e ∙ made_is s c.is_sorted.ensures.scheme c.is_sorted.ensures.sorted kept numbers is told) c.selection.ensures
