-- the states so far are marked
use Rattle.std.proofs.Common.{◌≡◌, ℕ, ◌<◌, slice_get, Some, true}
use Rattle.hs_checker.proofs.terminals.is_complete.Given as goal

abbrev pub invariant-loop-q : goal.invariant-loop-q
invariant-loop-q l = (q : ℕ) → q < l.q → slice_get l.marks.items q ≡ Some true
