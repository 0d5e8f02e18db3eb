-- the sites at the points so far
use Rattle.std.proofs.Common.{take}
use Rattle.hs_sites.specs.declared.collecting.CollectingOrder.{CollectingOrder}
use Rattle.hs_sites.specs.declared.sites.Site.{Site}
use Rattle.hs_sites.specs.Collecting.{AddsTo, HasBases, IsSiteAt}
use Rattle.hs_sites.proofs.Adding.{ByAny}
use Rattle.hs_sites.proofs.collecting.add_in_order.Given as goal

abbrev pub invariant-loop-order : goal.invariant-loop-order
invariant-loop-order l = record {
  bases : HasBases l.problem l.bases;
  sites : AddsTo (ByAny (take l.order-index l.orders) (λ (t : CollectingOrder) (s : Site). IsSiteAt l.problem t.point s)) l.initial.sites.items l.sites.items;
}
