use Rattle.std.proofs.Common.{◌≡◌, ap, subst, ◌∙◌, List, [], ◌∷◌, length, Contains, length-append, arith}
use Rattle.hs_scheme.specs.Problem.{ProblemData}
use Rattle.hs_scheme.proofs.Lists.{none_in}
use Rattle.hs_sites.specs.declared.collecting.CollectingOrder.{CollectingOrder}
use Rattle.hs_sites.proofs.Collected.{orders_more, orders_all, orders_moved}
use Rattle.hs_sites.proofs.collecting.orders_of.Goals as goal

pub loop-point-init : goal.loop-point-init
loop-point-init c = record {
  points = λ t m. absurd (none_in t (subst (λ (ts : List CollectingOrder). Contains ts t) c.in_ok-orders.ensures.items m));
  all = λ k lt. absurd (omega (arith, lt));
  long = ap length c.in_ok-orders.ensures.items;
  room = omega (arith, c.in_ok-orders.ensures.capacity);
}

pub loop-point-preserved : goal.loop-point-preserved
loop-point-preserved c =
    let old = c.loop-point.orders.items in
    let new = c.push_reserved.new.self.items in
    let n = c.loop-point.point in
    record {
      points = orders_more old new n c.order_of.result c.push_reserved.ensures.items c.order_of.ensures c.loop-point.invariant.points;
      all = orders_all old new n c.order_of.result c.push_reserved.ensures.items c.order_of.ensures c.loop-point.invariant.all;
      long = omega (arith, c.loop-point.invariant.long, ap length c.push_reserved.ensures.items, length-append old (c.order_of.result ∷ []));
      room = omega (arith, c.push_reserved.ensures.capacity, c.loop-point.invariant.room);
    }

pub returns : goal.returns
returns c =
    let p = c.args.problem.now in
    let end : c.loop-point.point ≡ c.count-count.result = omega arith in
    let count : c.count-count.result ≡ length p.points.points = c.count-count.ensures.points ∙ ap (λ (q : ProblemData). length q.points.points) c.problem.view_is in
    orders_moved p c.loop-point.orders.items c.sort_unstable.new.self.items c.sort_unstable.ensures.permutation (record {
      points = λ t m. let lt = c.loop-point.invariant.points t m in omega (arith, lt, end, count);
      all = λ point lt. c.loop-point.invariant.all point (omega (arith, lt, end, count));
    })
