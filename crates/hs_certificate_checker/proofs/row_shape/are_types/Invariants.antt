-- those so far are in shape
use Rattle.std.proofs.Common.{take}
use Rattle.hs_types.specs.Interned.{set_of_id}
use Rattle.hs_checker.specs.Shape.{AreAllTypes}
use Rattle.hs_certificate_checker.proofs.row_shape.are_types.Given as goal

abbrev pub invariant-loop-member : goal.invariant-loop-member
invariant-loop-member l = AreAllTypes l.states (take l.member-index (set_of_id l.interner l.fn.set))
