-- the sets so far, from the last one on
use Rattle.std.proofs.Common.{◌≡◌, ◌<◌, ◌≤◌, length, map, drop}
use Rattle.hs_table.specs.Types.{arrows}
use Rattle.hs_types.specs.Interned.{type_of_id, set_of_id}
use Rattle.hs_replica.specs.Replica.{KeepsLog}
use Rattle.hs_rules.proofs.heads.rest_of.Given as goal

abbrev pub decreases-loop-left : goal.decreases-loop-left
decreases-loop-left l = l.left

abbrev pub invariant-loop-left : goal.invariant-loop-left
invariant-loop-left l = record {
  kept : KeepsLog l.fn.replica l.replica;
  least : l.from ≤ l.left;
  most : l.left ≤ length l.full;
  within : l.rest < length l.replica.ids.types;
  is : type_of_id l.replica.ids l.rest ≡ arrows (drop l.left (map (set_of_id l.fn.replica.ids) l.full)) (type_of_id l.fn.replica.ids l.fn.ty);
}
