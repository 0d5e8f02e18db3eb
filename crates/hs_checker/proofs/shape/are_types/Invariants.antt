-- those so far are in shape
use Rattle.std.proofs.Common.{take}
use Rattle.hs_checker.specs.Shape.{AreAllTypes}
use Rattle.hs_checker.proofs.shape.are_types.Given as goal

abbrev pub invariant-loop-member : goal.invariant-loop-member
invariant-loop-member l = AreAllTypes l.states (take l.member-index l.types)
