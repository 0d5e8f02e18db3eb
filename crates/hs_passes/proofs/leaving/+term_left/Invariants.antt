-- what is left of those of the arguments so far that stay
use Rattle.std.proofs.Common.{◌≡◌, map, take}
use Rattle.hs_passes.specs.Leaving.{keeps, term_left}
use Rattle.hs_passes.specs.Needing.{kept}
use Rattle.hs_passes.specs.Selection.{chosen}
use Rattle.hs_passes.proofs.leaving.+term_left.Given as goal

abbrev pub invariant-loop-i : goal.invariant-loop-i
invariant-loop-i l =
    let keep = kept l.parameters l.flags in
    l.args.items ≡ chosen (keeps keep l.term-inside.head) (take l.i (map (term_left keep (keep l.rule)) l.arg-items))
