-- the types from the points so far
use Rattle.std.proofs.Common.{take, length}
use Rattle.hs_types.specs.Interned.{type_of_id}
use Rattle.hs_replica.specs.Places.{takes}
use Rattle.hs_replica.specs.Replica.{KeepsLog}
use Rattle.hs_rules.specs.Heads.{GainsHeads, AtFlow}
use Rattle.hs_rules.proofs.parameters.push_taking.Given as goal

abbrev pub invariant-loop-pair : goal.invariant-loop-pair
invariant-loop-pair l = record {
  kept : KeepsLog l.fn.replica l.replica;
  gains : GainsHeads l.replica.ids (length l.at.search.args.now) (AtFlow l.fn.replica.log l.at.params l.x l.at.search.limit (λ u. takes u l.asked.arg (type_of_id l.fn.replica.ids l.asked.ty)) (take l.pair-index l.pairs)) l.fn.out.items l.out.items;
}
