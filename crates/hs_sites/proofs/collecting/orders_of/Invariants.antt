-- the orders of the points so far
use Rattle.std.proofs.Common.{◌≡◌, ℕ, ◌<◌, ◌≤◌, length, Contains, vec_capacity}
use Rattle.hs_sites.specs.declared.collecting.CollectingOrder.{CollectingOrder}
use Rattle.hs_sites.proofs.collecting.orders_of.Given as goal

abbrev pub invariant-loop-point : goal.invariant-loop-point
invariant-loop-point l = record {
  points : (t : CollectingOrder) → Contains l.orders.items t → t.point < l.point;
  all : (k : ℕ) → k < l.point → (t : CollectingOrder) × (Contains l.orders.items t × (t.point ≡ k));
  long : length l.orders.items ≡ l.point;
  room : l.count ≤ vec_capacity l.orders;
}
