-- the kinds of the types so far
use Rattle.std.proofs.Common.{map, take}
use Rattle.hs_types.specs.Interned.{type_of_id}
use Rattle.hs_strength.specs.Kinds.{AddsKinds}
use Rattle.hs_strength.proofs.kinds.with_kinds.Given as goal

abbrev pub invariant-loop-member : goal.invariant-loop-member
invariant-loop-member l = AddsKinds (map (type_of_id l.types) (take l.member-index l.members)) l.parameter l.kinds l.all
