-- so far all are empty
use Rattle.std.proofs.Common.{◌≡◌, ℕ, ◌≤◌, length, get_or}
use Rattle.std.specs.Vec.{vec_len, vec_capacity}
use Rattle.hs_rank.proofs.buckets.empty_buckets.Given as goal

abbrev pub invariant-loop : goal.invariant-loop
invariant-loop l = record {
  long : vec_len l.lasts ≡ l.counter;
  zeros : (k : ℕ) → get_or l.lasts.items k 0 ≡ 0;
  room : l.count ≤ vec_capacity l.lasts;
}
