-- the transitions so far are in their rows
use Rattle.std.specs.HashMap.{get}
use Rattle.hs_scheme.specs.Key.{triple_eq}
use Rattle.hs_scheme.specs.acceptance.Transitions.{items_of, IsByChild}
use Rattle.hs_scheme.proofs.transitions.by_child.Given as goal

abbrev pub invariant-loop-transition : goal.invariant-loop-transition
invariant-loop-transition l = IsByChild l.transitions l.transition-index (λ a child s. items_of (get triple_eq l.rows (a, child, s)))
