-- the bits of the types so far are there
use Rattle.std.proofs.Common.{map, take}
use Rattle.hs_types.specs.Interned.{type_of_id}
use Rattle.hs_replica.specs.Masks.{AddsBitsOf}
use Rattle.hs_replica.proofs.masks.with_set.Given as goal

abbrev pub invariant-loop-ty : goal.invariant-loop-ty
invariant-loop-ty l = AddsBitsOf l.interner l.count l.param (map (type_of_id l.interner) (take l.ty-index l.ty-items)) l.mask l.all
