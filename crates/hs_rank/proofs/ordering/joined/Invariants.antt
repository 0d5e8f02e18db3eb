-- the places of the buckets so far stand in order
use Rattle.hs_rank.specs.Buckets.{lists_in}
use Rattle.hs_rank.proofs.Joined.{AreJoined}
use Rattle.hs_rank.proofs.ordering.joined.Given as goal

abbrev pub invariant-loop-number : goal.invariant-loop-number
invariant-loop-number l = AreJoined l.fn.interner l.fn.found (lists_in l.fn.buckets.before.items l.fn.buckets.lasts.items) l.number l.places.items
