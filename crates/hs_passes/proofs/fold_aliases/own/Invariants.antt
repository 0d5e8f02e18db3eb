use Rattle.std.proofs.Common.{◌≡◌, ◌<◌, ℕ, vec_len, ◌≤◌, length, vec_capacity}
use Rattle.std.specs.Prelude.{nat_eq}
use Rattle.hs_passes.specs.Selection.{stays, number_in}
use Rattle.hs_passes.proofs.fold_aliases.own.Given as goal

abbrev pub invariant-loop-number : goal.invariant-loop-number
invariant-loop-number l = record {
  long : vec_len l.kept ≡ l.number;
  each : (h : ℕ) → h < l.number → stays l.kept.items h ≡ nat_eq (number_in l.reps h) h;
  room : length l.reps ≤ vec_capacity l.kept;
}
