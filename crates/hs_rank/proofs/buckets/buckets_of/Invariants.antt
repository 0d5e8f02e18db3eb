-- the places so far are in the buckets of their points
use Rattle.std.proofs.Common.{◌≡◌, ◌≤◌, length}
use Rattle.std.specs.Vec.{vec_len, vec_capacity}
use Rattle.hs_rank.specs.Buckets.{lists_in, IsLinked}
use Rattle.hs_rank.proofs.Spreading.{AreSpread}
use Rattle.hs_rank.proofs.buckets.buckets_of.Given as goal

abbrev pub invariant-loop-place : goal.invariant-loop-place
invariant-loop-place l = record {
  spread : AreSpread l.spread l.found l.place (lists_in l.buckets.before.items l.buckets.lasts.items);
  linked : IsLinked l.buckets.before.items l.buckets.lasts.items;
  next : length l.buckets.before.items ≡ l.place;
  room : length l.found ≤ vec_capacity l.buckets.before;
}
