-- the lines of the rules so far, and there is room for the others
use Rattle.std.proofs.Common.{◌≡◌, ◌≤◌, length, take, vec_len, vec_capacity}
use Rattle.hs_trace.specs.Explained.{lines_of}
use Rattle.hs_trace.proofs.lines.lines_of_rules.Given as goal

abbrev pub invariant-loop-rule : goal.invariant-loop-rule
invariant-loop-rule l = record {
  items : l.lines.items ≡ lines_of (take l.rule-index l.rules);
  long : vec_len l.lines ≡ l.rule-index;
  room : length l.rules ≤ vec_capacity l.lines;
}
