-- a type is lower than one that has it; the numbers so far are those of the first types
use Rattle.std.proofs.Common.{◌≡◌, ◌<◌, ◌+◌, ◌*◌, take, map, All, length}
use Rattle.hs_scheme.specs.Tree.{height, heights, forest}
use Rattle.hs_types.specs.Interned.{type_of_id, Grows}
use Rattle.hs_numbered.proofs.import.+import.Given as goal

abbrev pub decreases-import_type : goal.decreases-import_type
decreases-import_type l = 2 * height l.ty.now + 1

abbrev pub decreases-import_set : goal.decreases-import_set
decreases-import_set l = 2 * heights (forest l.set.now)

abbrev pub invariant-import_set-loop-member : goal.invariant-import_set-loop-member
invariant-import_set-loop-member l = record {
  grows : Grows l.fn.interner l.interner;
  range : All (λ t. t < length l.interner.types) l.members.items;
  same : map (type_of_id l.interner) l.members.items ≡ take l.member-index l.set;
}
