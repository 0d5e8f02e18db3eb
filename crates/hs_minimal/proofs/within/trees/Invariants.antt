-- the trees so far
use Rattle.std.proofs.Common.{◌≡◌, ◌≤◌, map, take, length, vec_capacity}
use Rattle.hs_types.specs.Interned.{entry_of}
use Rattle.hs_minimal.proofs.within.trees.Given as goal

abbrev pub invariant-loop-row : goal.invariant-loop-row
invariant-loop-row l = record {
  trees : l.trees.items ≡ map (entry_of l.types) (take l.row-index l.rows);
  room : length l.rows ≤ vec_capacity l.trees;
}
