-- the slots that are done lead to the environments from the one that asks for what all only candidates ask for
use Rattle.std.proofs.Common.{◌-◌, length}
use Rattle.hs_types.specs.Interned.{env_of_id}
use Rattle.hs_replica.specs.Replica.{KeepsLog}
use Rattle.hs_rules.specs.Turns.{AreTurns, slots_at}
use Rattle.hs_rules.specs.Joins.{LeadBySole}
use Rattle.hs_rules.proofs.joins.joined_lightest_first.Given as goal

abbrev pub invariant-loop-weights : goal.invariant-loop-weights
invariant-loop-weights l = record {
  kept : KeepsLog l.fn.replica l.replica;
  turns : AreTurns l.slots l.done.items;
  lead : LeadBySole l.replica.ids l.fn.replica.log (length (env_of_id l.fn.replica.ids l.fn.own)) (env_of_id l.fn.replica.ids l.fn.own) l.slots (slots_at l.slots l.done.items) l.whole l.out.items;
}

abbrev pub decreases-loop-weights : goal.decreases-loop-weights
decreases-loop-weights l = length l.slots - length l.done.items
