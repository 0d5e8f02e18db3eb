-- the transitions so far stand behind what was there
use Rattle.std.proofs.Common.{take}
use Rattle.std.specs.List.{flat_map}
use Rattle.hs_text.specs.Canonical.{transition_text}
use Rattle.hs_text.specs.Pieces.{Puts}
use Rattle.hs_text.proofs.canonical.push_transitions.Given as goal

abbrev pub invariant-loop-transition : goal.invariant-loop-transition
invariant-loop-transition l = Puts l.initial.text l.text (flat_map (transition_text l.names) (take l.transition-index l.transitions))
