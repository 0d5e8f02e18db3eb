-- the slots of the types so far
use Rattle.std.proofs.Common.{take}
use Rattle.hs_types.specs.Interned.{set_of_id}
use Rattle.hs_replica.specs.Replica.{ListsMore}
use Rattle.hs_rules.specs.Slots.{slots_of}
use Rattle.hs_rules.specs.Filling.{fixed_of, GainsFilled}
use Rattle.hs_rules.proofs.search.fill_set.Given as goal

abbrev pub invariant-loop-number : goal.invariant-loop-number
invariant-loop-number l = record {
  kept : ListsMore l.fn.replica l.replica;
  gains : GainsFilled (take l.search.limit l.fn.replica.log) (fixed_of l.fn.replica.log l.search.fixed) (slots_of l.arg l.point (take l.number (set_of_id l.fn.replica.ids l.set))) l.fn.out.items l.out.items;
}
