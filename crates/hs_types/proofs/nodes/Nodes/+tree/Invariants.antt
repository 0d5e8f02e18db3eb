-- a type is lower than one that has it; the trees so far, and room for the others
use Rattle.std.proofs.Common.{◌≡◌, ◌≤◌, ◌+◌, ◌*◌, take, map, length, vec_capacity}
use Rattle.hs_scheme.specs.Tree.{height, heights, forest}
use Rattle.hs_types.specs.Interned.{type_of_id, set_of_id}
use Rattle.hs_types.proofs.nodes.Nodes.+tree.Given as goal

abbrev pub decreases-tree_of_type : goal.decreases-tree_of_type
decreases-tree_of_type l = 2 * height (type_of_id l.self.now l.id) + 1

abbrev pub decreases-trees_of_set : goal.decreases-trees_of_set
decreases-trees_of_set l = 2 * heights (forest (set_of_id l.self.now l.id))

abbrev pub invariant-trees_of_set-loop-member : goal.invariant-trees_of_set-loop-member
invariant-trees_of_set-loop-member l = record {
  made : l.types.items ≡ map (type_of_id l.self) (take l.member-index l.members);
  room : length l.members ≤ vec_capacity l.types;
}
