-- those of the rules so far
use Rattle.std.proofs.Common.{◌≡◌, map, take}
use Rattle.hs_passes.specs.Selection.{stays, chosen}
use Rattle.hs_passes.proofs.selecting.add_params.Given as goal

abbrev pub invariant-loop-i : goal.invariant-loop-i
invariant-loop-i l = map (λ names. names.items) l.out.items ≡ chosen (stays l.keep) (take l.i (map (λ names. names.items) l.params))
