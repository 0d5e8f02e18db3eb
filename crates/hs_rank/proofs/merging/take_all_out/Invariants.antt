-- what stands at the places so far was taken, and the rest is as it was
use Rattle.std.proofs.Common.{◌≡◌, ℕ, ◌<◌, ◌≤◌, length, take, get_or, slice_get}
use Rattle.std.specs.Vec.{vec_len, vec_capacity}
use Rattle.hs_rank.specs.Ordering.{picked}
use Rattle.hs_rank.proofs.merging.take_all_out.Given as goal

abbrev pub invariant-loop-place : goal.invariant-loop-place
invariant-loop-place l = record {
  taken : l.taken.items ≡ picked l.fn.found.items (take l.place-index l.places);
  left : (k : ℕ) → l.place-index ≤ k → k < length l.places → slice_get l.found.items (get_or l.places k 0) ≡ slice_get l.fn.found.items (get_or l.places k 0);
  len : vec_len l.taken ≡ l.place-index;
  room : length l.places ≤ vec_capacity l.taken;
}
