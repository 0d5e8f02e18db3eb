-- the children so far are in their rows
use Rattle.std.specs.HashMap.{get}
use Rattle.hs_scheme.specs.Key.{triple_eq}
use Rattle.hs_scheme.specs.acceptance.Transitions.{items_of, GainsReads}
use Rattle.hs_scheme.proofs.transitions.add_children.Given as goal

abbrev pub invariant-loop-child : goal.invariant-loop-child
invariant-loop-child l =
    GainsReads l.transition l.child (λ a child s. items_of (get triple_eq l.initial.rows (a, child, s))) (λ a child s. items_of (get triple_eq l.rows (a, child, s)))
