-- the slots so far lead to the environments from the one that asks for what all only candidates ask for
use Rattle.std.proofs.Common.{length, take}
use Rattle.hs_types.specs.Interned.{env_of_id}
use Rattle.hs_replica.specs.Replica.{KeepsLog}
use Rattle.hs_rules.specs.Joins.{LeadBySole}
use Rattle.hs_rules.proofs.joins.joined_in_order.Given as goal

abbrev pub invariant-loop-number : goal.invariant-loop-number
invariant-loop-number l = record {
  kept : KeepsLog l.fn.replica l.replica;
  lead : LeadBySole l.replica.ids l.fn.replica.log (length (env_of_id l.fn.replica.ids l.fn.own)) (env_of_id l.fn.replica.ids l.fn.own) l.slots (take l.number l.slots) l.whole l.out.items;
}
