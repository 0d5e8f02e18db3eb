-- each cut is one step shorter; the children so far are cut
use Rattle.std.proofs.Common.{◌≡◌, ◌-◌, map, take}
use Rattle.hs_scheme.specs.acceptance.Cut.{cut}
use Rattle.hs_scheme.proofs.plain.+cut.Given as goal

abbrev pub decreases-cut : goal.decreases-cut
decreases-cut l = l.n

abbrev pub invariant-loop-arg : goal.invariant-loop-arg
invariant-loop-arg l = l.children.items ≡ map (cut l.rules (l.n - 1)) (take l.arg-index l.arg-items)
