-- no kinds are there that weren't
use Rattle.std.proofs.Common.{◌≡◌, ℕ, ◌+◌, ◌-◌, Some, slice_get, vec_len}
use Rattle.hs_strength.proofs.memo.make_place_for_kinds.Given as goal

abbrev pub invariant-loop-kinds : goal.invariant-loop-kinds
invariant-loop-kinds l = (e k : ℕ) → slice_get l.kinds.items e ≡ Some (Some k) → slice_get l.initial.kinds.items e ≡ Some (Some k)

abbrev pub decreases-loop-kinds : goal.decreases-loop-kinds
decreases-loop-kinds l = l.place + 1 - vec_len l.kinds
