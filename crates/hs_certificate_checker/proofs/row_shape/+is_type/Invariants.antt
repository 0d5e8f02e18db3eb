-- those so far are in shape; a type is lower than one that has it
use Rattle.std.proofs.Common.{map, take}
use Rattle.hs_scheme.specs.Tree.{height}
use Rattle.hs_types.specs.Interned.{type_of_id}
use Rattle.hs_checker.specs.Shape.{AreAllTypes}
use Rattle.hs_certificate_checker.proofs.row_shape.+is_type.Given as goal

abbrev pub decreases-is_type : goal.decreases-is_type
decreases-is_type l = height (type_of_id l.interner.now l.ty)

abbrev pub invariant-loop-member : goal.invariant-loop-member
invariant-loop-member l = AreAllTypes l.states (take l.member-index (map (type_of_id l.interner) l.member-items))
