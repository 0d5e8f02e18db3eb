use Rattle.std.proofs.Common.{get_or}
use Rattle.std.proofs.lemmas.List.Elements.{Contains-get_or}
use Rattle.hs_sites.specs.declared.collecting.CollectingOrder.{CollectingOrder}
use Rattle.hs_sites.specs.declared.sites.Site.{Site}
use Rattle.hs_sites.specs.Collecting.{IsSiteAt}
use Rattle.hs_sites.proofs.Adding.{by_none, by_more, by_all}
use Rattle.hs_sites.proofs.collecting.add_in_order.Goals as goal

pub loop-order-init : goal.loop-order-init
loop-order-init c = record {
  bases = c.requires.bases;
  sites = by_none c.args.orders.now (λ (t : CollectingOrder) (s : Site). IsSiteAt c.args.problem.now t.point s) c.args.sites.now.items;
}

pub add_at-requires-clause-point : goal.add_at-requires-clause-point
add_at-requires-clause-point c =
    let none : CollectingOrder = record { rule = 0; param = 0; point = 0 } in
    c.requires.points (get_or c.args.orders.now c.loop-order.order-index none) (Contains-get_or c.args.orders.now c.loop-order.order-index none c.loop-order-test.true)

pub loop-order-preserved : goal.loop-order-preserved
loop-order-preserved c = record {
  bases = c.in_ok-add_at.ensures.bases;
  sites = by_more c.args.orders.now c.loop-order.order-index (record { rule = 0; param = 0; point = 0 }) (λ (t : CollectingOrder) (s : Site). IsSiteAt c.args.problem.now t.point s) c.args.sites.now.items
      c.loop-order.sites.items c.add_at.new.sites.items c.loop-order-test.true c.loop-order.invariant.sites c.in_ok-add_at.ensures.sites;
}

pub returns : goal.returns
returns c =
    by_all c.args.orders.now c.loop-order.order-index (λ (t : CollectingOrder) (s : Site). IsSiteAt c.args.problem.now t.point s) c.args.sites.now.items c.loop-order.sites.items c.loop-order-test.false c.loop-order.invariant.sites
