-- nothing is kept
use Rattle.hs_rules.proofs.turns.growth.Given as goal

abbrev pub invariant-loop-partial : goal.invariant-loop-partial
invariant-loop-partial l = Unit {0}
