-- the states so far stand behind what was there
use Rattle.std.proofs.Common.{take, ◌++◌, codes}
use Rattle.std.specs.List.{flat_map}
use Rattle.hs_text.specs.Canonical.{name_at}
use Rattle.hs_text.specs.Pieces.{Puts}
use Rattle.hs_text.proofs.canonical.push_states.Given as goal

abbrev pub invariant-loop-state : goal.invariant-loop-state
invariant-loop-state l = Puts l.initial.text l.text (flat_map (λ q. codes " " ++ name_at l.names.states q) (take l.state-index l.states))
