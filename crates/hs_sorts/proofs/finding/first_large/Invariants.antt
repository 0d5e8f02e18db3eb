-- those so far are small
use Rattle.std.proofs.Common.{◌≡◌, ◌+◌, ◌<◌, ℕ, ◌≤◌, slice_get, Some}
use Rattle.hs_sorts.specs.declared.measures.Measure.{Measure}
use Rattle.hs_sorts.proofs.finding.first_large.Given as goal

abbrev pub invariant-loop-rule : goal.invariant-loop-rule
invariant-loop-rule l = (j : ℕ) (w : Measure) → j < l.rule → slice_get l.measures (0 + j) ≡ Some w → w.size ≤ 1000
