-- the types that the places so far give
use Rattle.std.proofs.Common.{take, length}
use Rattle.hs_replica.specs.Replica.{KeepsLog}
use Rattle.hs_rules.specs.Heads.{GainsHeads, AtSome, ParamAt}
use Rattle.hs_rules.proofs.heads.push_params.Given as goal

abbrev pub invariant-loop-place : goal.invariant-loop-place
invariant-loop-place l = record {
  kept : KeepsLog l.fn.replica l.replica;
  gains : GainsHeads l.replica.ids (length l.at.search.args.now) (AtSome (ParamAt l.fn.replica.log l.at.params l.x) (take l.place-index l.places)) l.fn.out.items l.out.items;
}
