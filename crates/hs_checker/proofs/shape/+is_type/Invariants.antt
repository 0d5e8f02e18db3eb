-- those so far are in shape
use Rattle.std.proofs.Common.{take}
use Rattle.hs_checker.specs.Shape.{AreAllTypes}
use Rattle.hs_checker.proofs.shape.+is_type.Given as goal

abbrev pub decreases-is_type : goal.decreases-is_type
decreases-is_type l = goal.size-is_type l

abbrev pub invariant-loop-member : goal.invariant-loop-member
invariant-loop-member l = AreAllTypes l.states (take l.member-index l.member-items)
