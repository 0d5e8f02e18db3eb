use Rattle.std.proofs.Common.{◌≡◌, ◌<◌, ℕ, vec_len, ◌≤◌, length, vec_capacity}
use Rattle.hs_passes.specs.Selection.{number_in}
use Rattle.hs_passes.proofs.fold_aliases.new_numbers.Given as goal

abbrev pub invariant-loop-rep : goal.invariant-loop-rep
invariant-loop-rep l = record {
  long : vec_len l.numbers ≡ l.rep-index;
  each : (h : ℕ) → h < l.rep-index → number_in l.numbers.items h ≡ number_in l.places (number_in l.reps h);
  room : length l.reps ≤ vec_capacity l.numbers;
}
