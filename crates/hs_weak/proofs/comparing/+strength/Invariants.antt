-- so far no type is as strong; so far each type is asked
use Rattle.std.proofs.Common.{◌+◌, ◌*◌, take}
use Rattle.hs_scheme.specs.Tree.{forest, height, heights}
use Rattle.hs_weak.specs.Strength.{AsStrongAs, AsksFor, AsksEach}
use Rattle.hs_weak.proofs.comparing.+strength.Given as goal

abbrev pub decreases-is_as_strong : goal.decreases-is_as_strong
decreases-is_as_strong l = (height l.ty.now + height l.other.now) * 2 + 1

abbrev pub decreases-asks : goal.decreases-asks
decreases-asks l = (heights (forest l.set.now) + height l.ty.now) * 2

abbrev pub decreases-asks_each : goal.decreases-asks_each
decreases-asks_each l = (heights (forest l.set.now) + heights (forest l.other.now)) * 2

abbrev pub invariant-asks-loop-member : goal.invariant-asks-loop-member
invariant-asks-loop-member l = AsksFor AsStrongAs (take l.member-index l.set) l.ty → ⊥

abbrev pub invariant-asks_each-loop-member : goal.invariant-asks_each-loop-member
invariant-asks_each-loop-member l = AsksEach AsStrongAs l.set (take l.member-index l.other)
