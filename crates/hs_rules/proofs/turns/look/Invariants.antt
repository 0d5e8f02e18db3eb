-- nothing is kept
use Rattle.hs_rules.proofs.turns.look.Given as goal

abbrev pub invariant-loop-slot : goal.invariant-loop-slot
invariant-loop-slot l = Unit {0}
