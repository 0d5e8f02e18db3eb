-- nothing is kept
use Rattle.hs_rules.proofs.turns.growing.Given as goal

abbrev pub invariant-loop-place : goal.invariant-loop-place
invariant-loop-place l = Unit {0}
