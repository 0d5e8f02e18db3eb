-- the slots so far have come to the environment
use Rattle.std.proofs.Common.{length, take, ◌<◌}
use Rattle.hs_types.specs.Interned.{env_of_id}
use Rattle.hs_replica.specs.Replica.{KeepsLog}
use Rattle.hs_rules.specs.Joins.{IsWithSole}
use Rattle.hs_rules.proofs.joins.own_with_sole.Given as goal

abbrev pub invariant-loop-slot : goal.invariant-loop-slot
invariant-loop-slot l = record {
  kept : KeepsLog l.fn.replica l.replica;
  known : l.env < length l.replica.ids.envs;
  asks : IsWithSole l.fn.replica.log (length (env_of_id l.fn.replica.ids l.fn.own)) (env_of_id l.fn.replica.ids l.fn.own) (take l.slot-index l.slots) (env_of_id l.replica.ids l.env);
}
