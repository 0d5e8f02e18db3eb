-- so many of each set are merged
use Rattle.std.proofs.Common.{◌<◌, ◌≤◌, ◌+◌, ◌-◌, length, map, All}
use Rattle.hs_types.specs.Interned.{type_of_id}
use Rattle.hs_types.proofs.MergeLemmas.{IsMerged}
use Rattle.hs_types.proofs.nodes.Nodes.merge_into.Given as goal

abbrev pub invariant-loop-i : goal.invariant-loop-i
invariant-loop-i l = record {
  first : l.i ≤ length l.xs;
  second : l.j ≤ length l.ys;
  range : All (λ t. t < length l.self.types) l.merged.items;
  merged : IsMerged (map (type_of_id l.self) l.xs) (map (type_of_id l.self) l.ys) l.i l.j (map (type_of_id l.self) l.merged.items);
}

abbrev pub decreases-loop-i : goal.decreases-loop-i
decreases-loop-i l = (length l.xs - l.i) + (length l.ys - l.j)
