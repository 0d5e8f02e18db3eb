use Rattle.std.proofs.Common.{◌≡◌, sym, ◌∙◌, ap, subst, length, sum, arith}
use Rattle.std.proofs.lemmas.Result.{IfOk-weaker}
use Rattle.hs_scheme.specs.Scheme.{SchemeData}
use Rattle.hs_passes.specs.Needing.{kept, IsAbove}
use Rattle.hs_passes.specs.Order.{rank_of, AllInOrder}
use Rattle.hs_passes.proofs.InOrder.{order_above}
use Rattle.hs_passes.proofs.Settling.{all_above}
use Rattle.hs_passes.proofs.in_order.droppable.Goals as goal

pub returns-then-are_in_order-clause-above : goal.returns-then-are_in_order-clause-above
returns-then-are_in_order-clause-above c =
    let counts = c.args.parameters.now in
    let order = c.as_slice-order.result.now in
    let rules : c.as_slice-rules.result.now ≡ c.args.scheme.now.rules = c.as_slice-rules.ensures.value ∙ ap (λ (s : SchemeData). s.rules) c.scheme.view_is in
    let long : length order ≡ sum counts = omega (arith, c.as_slice-order.ensures.len, c.in_ok-ranks.ensures) in
    let ordered = subst (λ rs. AllInOrder (rank_of counts order) rs (length rs)) rules (c.are_in_order.ensures c.if-are_in_order.true) in
    let above = order_above c.args.scheme.now.rules counts c.requires order long ordered in
    IfOk-weaker c.staying.result _ _ (λ v e. subst (λ fs. IsAbove c.args.scheme.now.rules (kept counts fs)) (sym e) above) c.staying.ensures

pub returns-clause-above : goal.returns-clause-above
returns-clause-above c =
    let counts = c.args.parameters.now in
    let rules = c.args.scheme.now.rules in
    IfOk-weaker c.all_flags.result _ _ (λ v e. subst (λ fs. IsAbove rules (kept counts fs)) (sym e) (all_above rules counts c.requires)) c.all_flags.ensures
