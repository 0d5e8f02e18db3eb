use Rattle.std.proofs.Common.{◌≡◌, ◌≤◌, ◌<◌, ℕ, vec_len, length, vec_capacity}
use Rattle.hs_passes.specs.Selection.{stays, number_in, place}
use Rattle.hs_passes.proofs.selecting.places.Given as goal

abbrev pub invariant-loop-stays : goal.invariant-loop-stays
invariant-loop-stays l = record {
  next : l.next ≡ place (stays l.keep) l.stays-index;
  few : l.next ≤ l.stays-index;
  long : vec_len l.numbers ≡ l.stays-index;
  each : (f : ℕ) → f < l.stays-index → number_in l.numbers.items f ≡ place (stays l.keep) f;
  room : length l.keep ≤ vec_capacity l.numbers;
}
