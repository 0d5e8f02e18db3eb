-- what stands at the places so far was published, and the rest is as it was
use Rattle.std.proofs.Common.{◌≡◌, ℕ, ◌<◌, ◌≤◌, length, take, get_or, slice_get}
use Rattle.hs_rank.specs.Ordering.{picked}
use Rattle.hs_canonical.specs.Publishing.{HasPublished}
use Rattle.hs_canonical.specs.declared.publishing.TheConstants.{WORKER}
use Rattle.hs_canonical.proofs.publishing.publish_round.Given as goal

abbrev pub invariant-loop-place : goal.invariant-loop-place
invariant-loop-place l = record {
  published : HasPublished WORKER l.ticket l.fn.core (picked l.fn.found.items (take l.place-index l.places)) l.core;
  left : (k : ℕ) → l.place-index ≤ k → k < length l.places → slice_get l.found.items (get_or l.places k 0) ≡ slice_get l.fn.found.items (get_or l.places k 0);
}
