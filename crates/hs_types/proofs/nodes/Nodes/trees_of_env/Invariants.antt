-- the sets so far, and room for the others
use Rattle.std.proofs.Common.{◌≡◌, ◌≤◌, take, map, length, vec_capacity}
use Rattle.hs_types.specs.Interned.{set_of_id}
use Rattle.hs_types.proofs.nodes.Nodes.trees_of_env.Given as goal

abbrev pub invariant-loop-set : goal.invariant-loop-set
invariant-loop-set l = record {
  made : l.trees.items ≡ map (set_of_id l.self) (take l.set-index l.sets);
  room : length l.sets ≤ vec_capacity l.trees;
}
