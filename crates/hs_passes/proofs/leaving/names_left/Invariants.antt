-- those of the names so far that stay
use Rattle.std.proofs.Common.{◌≡◌, take}
use Rattle.hs_passes.specs.Needing.{kept}
use Rattle.hs_passes.specs.Selection.{chosen}
use Rattle.hs_passes.proofs.leaving.names_left.Given as goal

abbrev pub invariant-loop-i : goal.invariant-loop-i
invariant-loop-i l = l.out.items ≡ chosen (kept l.parameters l.flags l.rule) (take l.i l.names)
