-- what comes of the environments so far by the candidate is there
use Rattle.std.proofs.Common.{get_or}
use Rattle.hs_replica.specs.Replica.{KeepsLog}
use Rattle.hs_rules.proofs.ExtendLemmas.{SoFar}
use Rattle.hs_rules.proofs.extending.extend_by.Given as goal

abbrev pub invariant-loop-place : goal.invariant-loop-place
invariant-loop-place l = record {
  kept : KeepsLog l.fn.replica l.replica;
  so : SoFar l.fn.replica.ids l.replica.ids l.fn.replica.log l.run l.next.slot.now l.next.at (get_or l.next.slot.now.places l.number 0) l.place l.fn.out.list.items l.out.seen.keys l.out.met.masks.keys l.out.list.items;
}
