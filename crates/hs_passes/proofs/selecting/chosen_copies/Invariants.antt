-- copies of those so far
use Rattle.std.proofs.Common.{◌≡◌, take}
use Rattle.hs_passes.specs.Selection.{stays, chosen}
use Rattle.hs_passes.proofs.selecting.chosen_copies.Given as goal

abbrev pub invariant-loop-i : goal.invariant-loop-i
invariant-loop-i g l = l.out.items ≡ chosen (stays l.keep) (take l.i l.items)
