-- so are the bodies so far, and the counts of their parameters within the limit
use Rattle.std.proofs.Common.{◌≤◌, ◌<◌, ℕ, get_or, length}
use Rattle.hs_scheme.specs.declared.term.Rule.{Rule}
use Rattle.hs_scheme.specs.Scheme.{TermInRange}
use Rattle.hs_scheme.proofs.checked.are_rules.Given as goal

abbrev pub invariant-loop-rule : goal.invariant-loop-rule
invariant-loop-rule l = record {
  bodies : (k : ℕ) (d : Rule) → k < l.rule-index → TermInRange (get_or l.rules k d).params (length l.rules) l.terminals (get_or l.rules k d).body;
  params : (k : ℕ) (d : Rule) → k < l.rule-index → (get_or l.rules k d).params ≤ 64;
}
