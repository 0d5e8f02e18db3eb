-- the transitions so far, their states, and their terminals behind those that were met before
use Rattle.std.proofs.Common.{◌≡◌, map, take}
use Rattle.std.specs.List.{flat_map}
use Rattle.hs_resolve.specs.Names.{distinct, with_names}
use Rattle.hs_resolve.specs.Numbering.{states_in}
use Rattle.hs_resolve.specs.Moves.{AreMoves}
use Rattle.hs_resolve.proofs.numbering.number_transitions.Given as goal

abbrev pub invariant-loop-transition : goal.invariant-loop-transition
invariant-loop-transition l = record {
  terminals : l.terminals ≡ with_names l.initial.terminals (map (λ t. t.terminal.text) (take l.transition-index l.transitions));
  states : l.states ≡ distinct (flat_map states_in (take l.transition-index l.transitions));
  transitions : AreMoves l.states l.terminals (take l.transition-index l.transitions) l.numbered.items;
}
