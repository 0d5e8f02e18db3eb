use Rattle.std.proofs.Common.{sym, subst, List, Contains}
use Rattle.std.proofs.lemmas.Result.{on_ok_weaker}
use Rattle.hs_sites.specs.declared.collecting.CollectingOrder.{CollectingOrder}
use Rattle.hs_sites.specs.Collecting.{AreOrders}
use Rattle.hs_sites.proofs.Collected.{all_sites}
use Rattle.hs_sites.proofs.collecting.add_all.Goals as goal

pub add_in_order-requires-clause-points : goal.add_in_order-requires-clause-points
add_in_order-requires-clause-points c = λ t m. c.in_ok-orders.ensures.points t (subst (λ (ts : List CollectingOrder). Contains ts t) c.as_slice.ensures.value m)

pub returns : goal.returns
returns c =
    let p = c.args.problem.now in
    let are = subst (AreOrders p) (sym c.as_slice.ensures.value) c.in_ok-orders.ensures in
    on_ok_weaker c.add_in_order.result (all_sites p c.as_slice.result.now c.args.sites.now.items c.add_in_order.new.sites.items c.requires are) c.add_in_order.ensures
