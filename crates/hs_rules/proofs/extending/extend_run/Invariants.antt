-- what comes of the candidates so far is there
use Rattle.hs_replica.specs.Replica.{KeepsLog}
use Rattle.hs_rules.proofs.ExtendLemmas.{CandidatesSoFar}
use Rattle.hs_rules.proofs.extending.extend_run.Given as goal

abbrev pub invariant-loop-number : goal.invariant-loop-number
invariant-loop-number l = record {
  kept : KeepsLog l.fn.replica l.replica;
  so : CandidatesSoFar l.fn.replica.ids l.replica.ids l.fn.replica.log l.run l.next.slot.now l.next.at l.number l.fn.out.list.items l.out.seen.keys l.out.met.masks.keys l.out.list.items;
}
