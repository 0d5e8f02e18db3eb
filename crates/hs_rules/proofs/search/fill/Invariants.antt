-- the slots of the arguments so far
use Rattle.std.proofs.Common.{map, take}
use Rattle.hs_types.specs.Interned.{set_of_id}
use Rattle.hs_replica.specs.Replica.{ListsMore}
use Rattle.hs_rules.specs.Slots.{slots}
use Rattle.hs_rules.specs.Filling.{fixed_of, AreFilled}
use Rattle.hs_rules.proofs.search.fill.Given as goal

abbrev pub invariant-loop-arg : goal.invariant-loop-arg
invariant-loop-arg l = record {
  kept : ListsMore l.fn.replica l.replica;
  filled : AreFilled (take l.search.limit l.fn.replica.log) (fixed_of l.fn.replica.log l.search.fixed) (slots 0 (take l.arg l.args) (map (set_of_id l.fn.replica.ids) (take l.arg l.sets))) l.out.items;
}
