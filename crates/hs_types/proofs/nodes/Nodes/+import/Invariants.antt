-- a type is lower than one that has it; the types that are numbered here so far are those of the other
use Rattle.std.proofs.Common.{◌≡◌, ◌<◌, ◌+◌, ◌*◌, take, map, All, length}
use Rattle.hs_scheme.specs.Tree.{height, heights, forest}
use Rattle.hs_types.specs.Interned.{type_of_id, set_of_id, Grows}
use Rattle.hs_types.specs.Translations.{AreFound}
use Rattle.hs_types.proofs.nodes.Nodes.+import.Given as goal

abbrev pub decreases-import_type : goal.decreases-import_type
decreases-import_type l = 3 * height (type_of_id l.from.now l.id) + 2

abbrev pub decreases-make_type : goal.decreases-make_type
decreases-make_type l = 3 * height (type_of_id l.from.now l.id) + 1

abbrev pub decreases-import_set : goal.decreases-import_set
decreases-import_set l = 3 * heights (forest (set_of_id l.from.now l.id))

abbrev pub invariant-import_set-loop-member : goal.invariant-import_set-loop-member
invariant-import_set-loop-member l = record {
  found : AreFound l.from l.self l.found;
  grows : Grows l.fn.self l.self;
  range : All (λ t. t < length l.self.types) l.types.items;
  same : map (type_of_id l.self) l.types.items ≡ map (type_of_id l.from) (take l.member-index l.members);
}
