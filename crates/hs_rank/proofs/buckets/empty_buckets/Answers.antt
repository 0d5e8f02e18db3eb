use Rattle.hs_rank.proofs.Chains.{none_in_lists}
use Rattle.hs_rank.proofs.buckets.empty_buckets.Goals as goal

pub returns-clause-empty : goal.returns-clause-empty
returns-clause-empty c = none_in_lists c.in_ok-before.before.items c.loop.lasts.items c.in_ok-before.ensures.items
