-- no place is marked that wasn't
use Rattle.std.proofs.Common.{◌≡◌, ℕ, ◌+◌, ◌-◌, true, Some, slice_get, vec_len}
use Rattle.hs_strength.proofs.memo.make_place.Given as goal

abbrev pub invariant-loop-seen : goal.invariant-loop-seen
invariant-loop-seen l = (t : ℕ) → slice_get l.seen.items t ≡ Some true → slice_get l.initial.seen.items t ≡ Some true

abbrev pub decreases-loop-seen : goal.decreases-loop-seen
decreases-loop-seen l = l.place + 1 - vec_len l.seen
