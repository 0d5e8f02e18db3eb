-- those of the rules so far
use Rattle.std.proofs.Common.{◌≡◌, map, take}
use Rattle.hs_passes.specs.Selection.{stays, number_in, chosen, renamed_rule}
use Rattle.hs_passes.proofs.selecting.chosen_rules.Given as goal

abbrev pub invariant-loop-i : goal.invariant-loop-i
invariant-loop-i l = l.out.items ≡ chosen (stays l.keep) (take l.i (map (renamed_rule (number_in l.numbers)) l.rules))
