-- the masks are those of the candidates so far
use Rattle.std.proofs.Common.{◌≡◌, ℕ, ◌<◌, length, get_or}
use Rattle.hs_rules.specs.Joins.{IsMaskAt}
use Rattle.hs_rules.proofs.masks.masks_of.Given as goal

abbrev pub invariant-loop-place : goal.invariant-loop-place
invariant-loop-place l = record {
  kept : l.replica ≡ l.fn.replica;
  long : length l.masks.items ≡ l.place-index;
  are : (k : ℕ) → k < length l.masks.items → IsMaskAt l.fn.replica.ids l.fn.replica.log (get_or l.place-items k 0) (get_or l.masks.items k 0);
}
