-- the rules so far are counted, and each knows the number of its first parameter; there is room for the others
use Rattle.std.proofs.Common.{◌≡◌, ◌+◌, ◌<◌, ◌≤◌, ℕ, take, length, sum, slice_index, vec_len, vec_capacity}
use Rattle.hs_scheme.specs.sorting.Parameters.{counts_of}
use Rattle.hs_scheme.proofs.parameters.Parameters.of.Given as goal

abbrev pub invariant-loop-rule : goal.invariant-loop-rule
invariant-loop-rule l = record {
  counts : l.counts.items ≡ take l.rule-index (counts_of l.rules);
  counted : vec_len l.counts ≡ l.rule-index;
  counts_room : length l.rules ≤ vec_capacity l.counts;
  long : length l.firsts.items ≡ l.rule-index;
  each : (rule : ℕ) → rule < l.rule-index → slice_index l.firsts.items rule ≡ sum (take rule (counts_of l.rules));
  firsts_room : length l.rules + 1 ≤ vec_capacity l.firsts;
  total : l.total ≡ sum (take l.rule-index (counts_of l.rules));
}
