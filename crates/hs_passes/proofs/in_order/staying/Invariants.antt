use Rattle.std.proofs.Common.{◌≡◌, ◌≤◌, length, map, take, vec_len, vec_capacity}
use Rattle.std.specs.Prelude.{nat_le}
use Rattle.hs_passes.specs.Order.{never}
use Rattle.hs_passes.proofs.in_order.staying.Given as goal

abbrev pub invariant-loop-rank : goal.invariant-loop-rank
invariant-loop-rank l = record {
  items : l.flags.items ≡ map (λ rank. nat_le never rank) (take l.rank-index l.ranks);
  long : vec_len l.flags ≡ l.rank-index;
  room : length l.ranks ≤ vec_capacity l.flags;
}
