-- those so far have only arguments o
use Rattle.std.proofs.Common.{◌≡◌, ◌+◌, ◌<◌, ℕ, slice_get, Some, true}
use Rattle.hs_sorts.specs.declared.measures.Measure.{Measure}
use Rattle.hs_sorts.proofs.finding.first_higher_order.Given as goal

abbrev pub invariant-loop-terminal : goal.invariant-loop-terminal
invariant-loop-terminal l = (j : ℕ) (w : Measure) → j < l.terminal → slice_get l.measures (l.start + j) ≡ Some w → w.first_order ≡ true
