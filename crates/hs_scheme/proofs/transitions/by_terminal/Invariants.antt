-- the places so far are in their rows
use Rattle.std.proofs.Common.{nat_eq}
use Rattle.std.specs.HashMap.{get}
use Rattle.hs_scheme.specs.acceptance.Transitions.{items_of, IsByTerminal}
use Rattle.hs_scheme.proofs.transitions.by_terminal.Given as goal

abbrev pub invariant-loop-place : goal.invariant-loop-place
invariant-loop-place l = IsByTerminal l.transitions l.place (λ a. items_of (get nat_eq l.rows a))
