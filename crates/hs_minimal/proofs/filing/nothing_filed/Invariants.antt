-- so far nothing is filed
use Rattle.std.proofs.Common.{◌≡◌, [], ℕ, ◌≤◌, length, vec_capacity}
use Rattle.hs_reads.specs.Lists.{list_of}
use Rattle.hs_minimal.proofs.filing.nothing_filed.Given as goal

abbrev pub invariant-loop : goal.invariant-loop
invariant-loop l = record {
  long : length l.filed.items ≡ l.counter;
  empty : (k : ℕ) → list_of l.filed.items k ≡ [];
  room : l.points ≤ vec_capacity l.filed;
}
