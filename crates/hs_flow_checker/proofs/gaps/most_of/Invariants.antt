-- those so far have no more
use Rattle.std.proofs.Common.{◌≡◌, ℕ, ◌<◌, ◌≤◌, slice_get, Some}
use Rattle.hs_scheme.specs.declared.term.Rule.{Rule}
use Rattle.hs_flow_checker.proofs.gaps.most_of.Given as goal

abbrev pub invariant-loop-rule : goal.invariant-loop-rule
invariant-loop-rule l = (k : ℕ) (r : Rule) → k < l.rule-index → slice_get l.rules k ≡ Some r → r.params ≤ l.most
