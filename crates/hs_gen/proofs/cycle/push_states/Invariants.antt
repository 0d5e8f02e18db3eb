-- the lines of the states so far stand behind what was there
use Rattle.std.proofs.Common.{◌≡◌, ◌++◌}
use Rattle.std.specs.List.{flat_map, range_with_len}
use Rattle.hs_gen.specs.Cycle.{inner_lines}
use Rattle.hs_gen.proofs.cycle.push_states.Given as goal

abbrev pub invariant-loop-state : goal.invariant-loop-state
invariant-loop-state l = l.text.items ≡ l.initial.text.items ++ flat_map inner_lines (range_with_len 0 l.state)
