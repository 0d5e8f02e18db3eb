use Rattle.std.proofs.Common.{sym, ◌∙◌, ap, subst, ℕ, List, rules, inr}
use Rattle.hs_table.specs.Follows.{Support, premises}
use Rattle.hs_rules.specs.Order.{places_cmp, IsNoGreater}
use Rattle.hs_rules.specs.Conclusions.{DeducedData}
use Rattle.hs_rules.proofs.OrderLemmas.{no_greater_itself, no_greater_same, less_no_greater, not_less, is_less}
use Rattle.hs_rules.proofs.found.lower.Goals as goal

pub returns-then-ne-clause-least : goal.returns-then-ne-clause-least
returns-then-ne-clause-least c = no_greater_itself (premises c.args.deduced.now.support)

pub returns-then-ne-clause-new_least : goal.returns-then-ne-clause-new_least
returns-then-ne-clause-new_least c =
    let new : Support = record { head = c.args.head; args = c.args.args.now } in
    let old = c.args.deduced.now.support in
    not_less (premises new) (premises old) c.compare-order.result (c.compare-order.ensures ∙ ((λ i. places_cmp (premises new) (premises (record { head = c.deduced.inside.head; args = c.as_slice.ensures.value i }))) ∙ ap (λ (x : DeducedData). places_cmp (premises new) (premises x.support)) c.deduced.view_is)) c.if-ne.ensures

pub returns-clause-one : goal.returns-clause-one
returns-clause-one c =
    let args_are = c.in_ok-lesser.ensures.items_if_clones_equal (λ x y e. search rules) in
    inr (λ i. record { head = c.args.head; args = args_are i })

pub returns-clause-least : goal.returns-clause-least
returns-clause-least c =
    let new : Support = record { head = c.args.head; args = c.args.args.now } in
    let old = c.args.deduced.now.support in
    let args_are = c.in_ok-lesser.ensures.items_if_clones_equal (λ x y e. search rules) in
    let less = is_less (premises new) (premises old) c.compare-order.result (c.compare-order.ensures ∙ ((λ i. places_cmp (premises new) (premises (record { head = c.deduced.inside.head; args = c.as_slice.ensures.value i }))) ∙ ap (λ (x : DeducedData). places_cmp (premises new) (premises x.support)) c.deduced.view_is)) c.if-ne.ensures in
    subst (λ (a : List (ℕ × ℕ)). IsNoGreater (premises (record { head = c.args.head; args = a })) (premises old)) (sym args_are) (less_no_greater (premises new) (premises old) less)

pub returns-clause-new_least : goal.returns-clause-new_least
returns-clause-new_least c =
    let args_are = c.in_ok-lesser.ensures.items_if_clones_equal (λ x y e. search rules) in
    no_greater_same (premises (record { head = c.args.head; args = c.in_ok-lesser.lesser.items })) (premises (record { head = c.args.head; args = c.args.args.now }))
    (ap (λ (a : List (ℕ × ℕ)). premises (record { head = c.args.head; args = a })) args_are)
