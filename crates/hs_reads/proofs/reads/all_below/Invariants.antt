-- the numbers so far
use Rattle.std.proofs.Common.{ℕ, ◌<◌, ◌≤◌, Contains, ◌↔◌}
use Rattle.hs_reads.proofs.reads.all_below.Given as goal

abbrev pub invariant-loop-q : goal.invariant-loop-q
invariant-loop-q l = record {
  few : l.q ≤ l.states;
  each : (n : ℕ) → Contains l.every.items n ↔ n < l.q;
}
