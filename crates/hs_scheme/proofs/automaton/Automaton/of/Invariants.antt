-- the index holds the transitions so far
use Rattle.std.specs.HashMap.{get}
use Rattle.hs_scheme.specs.Key.{key_eq}
use Rattle.hs_scheme.specs.acceptance.Automaton.{IsTransitionIndex}
use Rattle.hs_scheme.proofs.automaton.Automaton.of.Given as goal

abbrev pub invariant-loop-place : goal.invariant-loop-place
invariant-loop-place l = IsTransitionIndex (λ q a. get key_eq l.index (q, a)) l.transition-items l.place
