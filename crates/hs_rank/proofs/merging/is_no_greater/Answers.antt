use Rattle.std.proofs.Common.{◌≡◌, ◌∙◌, ap}
use Rattle.hs_table.specs.Follows.{premises}
use Rattle.hs_rules.specs.Order.{places_cmp}
use Rattle.hs_rules.specs.Conclusions.{DeducedData}
use Rattle.hs_rules.proofs.OrderLemmas.{less_no_greater, not_less, is_less}
use Rattle.hs_rank.proofs.merging.is_no_greater.Goals as goal

pub returns-then-ne-clause-yes : goal.returns-then-ne-clause-yes
returns-then-ne-clause-yes c = λ yes.
    let other : premises (record { head = c.other.inside.head; args = c.as_slice.result.now }) ≡ premises c.args.other.now.support
    = (λ i. premises (record { head = c.other.inside.head; args = c.as_slice.ensures.value i })) ∙ ap (λ (x : DeducedData). premises x.support) c.other.view_is in
    let one : premises (record { head = c.one.inside.head; args = c.as_slice-2.result.now }) ≡ premises c.args.one.now.support
    = (λ i. premises (record { head = c.one.inside.head; args = c.as_slice-2.ensures.value i })) ∙ ap (λ (x : DeducedData). premises x.support) c.one.view_is in
    not_less (premises c.args.other.now.support) (premises c.args.one.now.support) c.compare-order.result (c.compare-order.ensures ∙ (λ i. places_cmp (other i) (one i))) c.if-ne.ensures

pub returns-clause-no : goal.returns-clause-no
returns-clause-no c = λ no.
    let other : premises (record { head = c.other.inside.head; args = c.as_slice.result.now }) ≡ premises c.args.other.now.support
    = (λ i. premises (record { head = c.other.inside.head; args = c.as_slice.ensures.value i })) ∙ ap (λ (x : DeducedData). premises x.support) c.other.view_is in
    let one : premises (record { head = c.one.inside.head; args = c.as_slice-2.result.now }) ≡ premises c.args.one.now.support
    = (λ i. premises (record { head = c.one.inside.head; args = c.as_slice-2.ensures.value i })) ∙ ap (λ (x : DeducedData). premises x.support) c.one.view_is in
    less_no_greater (premises c.args.other.now.support) (premises c.args.one.now.support)
    (is_less (premises c.args.other.now.support) (premises c.args.one.now.support) c.compare-order.result (c.compare-order.ensures ∙ (λ i. places_cmp (other i) (one i))) c.if-ne.ensures)
