-- those so far are not too long
use Rattle.std.proofs.Common.{◌≡◌, ◌<◌, ℕ, slice_get, Some, false}
use Rattle.hs_scheme.specs.declared.term.Rule.{Rule}
use Rattle.hs_sorts.specs.declared.measures.Measure.{Measure}
use Rattle.hs_sorts.specs.Finding.{TellsLong}
use Rattle.hs_sorts.proofs.finding.first_too_long.Given as goal

abbrev pub invariant-loop-number : goal.invariant-loop-number
invariant-loop-number l = (j : ℕ) (rule : Rule) (w : Measure) → j < l.number → slice_get l.rules j ≡ Some rule → slice_get l.measures j ≡ Some w → TellsLong rule w.arity false
