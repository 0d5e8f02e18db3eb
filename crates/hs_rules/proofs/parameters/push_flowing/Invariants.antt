-- the types from the points so far
use Rattle.std.proofs.Common.{take, length}
use Rattle.hs_replica.specs.Places.{here}
use Rattle.hs_replica.specs.Replica.{KeepsLog}
use Rattle.hs_rules.specs.Heads.{GainsHeads, AtFlow}
use Rattle.hs_rules.proofs.parameters.push_flowing.Given as goal

abbrev pub invariant-loop-pair : goal.invariant-loop-pair
invariant-loop-pair l = record {
  kept : KeepsLog l.fn.replica l.replica;
  gains : GainsHeads l.replica.ids (length l.at.search.args.now) (AtFlow l.fn.replica.log l.at.params l.x l.at.search.limit here (take l.pair-index l.pairs)) l.fn.out.items l.out.items;
}
