-- the sets so far, and what is left
use Rattle.std.proofs.Common.{◌≡◌, ◌<◌, length, map, All}
use Rattle.hs_table.specs.Types.{arrows}
use Rattle.hs_types.specs.Interned.{type_of_id, set_of_id}
use Rattle.hs_heads.proofs.splits.split.Given as goal

abbrev pub invariant-loop : goal.invariant-loop
invariant-loop l = record {
  within : All (λ s. s < length l.types.sets) l.sets.items;
  left : l.rest < length l.types.types;
  long : length l.sets.items ≡ l.counter;
  is : type_of_id l.types l.fn.ty ≡ arrows (map (set_of_id l.types) l.sets.items) (type_of_id l.types l.rest);
}
