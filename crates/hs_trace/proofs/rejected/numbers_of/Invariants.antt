-- the numbers of the steps so far, and there is room for the others
use Rattle.std.proofs.Common.{◌≡◌, ◌≤◌, length, take, vec_len, vec_capacity}
use Rattle.hs_scheme.specs.acceptance.Steps.{child_numbers}
use Rattle.hs_trace.proofs.rejected.numbers_of.Given as goal

abbrev pub invariant-loop-step : goal.invariant-loop-step
invariant-loop-step l = record {
  items : l.numbers.items ≡ child_numbers (take l.step-index l.steps);
  long : vec_len l.numbers ≡ l.step-index;
  room : length l.steps ≤ vec_capacity l.numbers;
}
