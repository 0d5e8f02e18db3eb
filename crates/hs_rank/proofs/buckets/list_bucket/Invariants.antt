-- what was walked so far stands behind the rest
use Rattle.std.proofs.Common.{◌≡◌, ◌≤◌, ◌++◌, length, reverse}
use Rattle.hs_flow.specs.Lists.{list_of}
use Rattle.hs_rank.specs.Buckets.{chain, lists_in}
use Rattle.hs_rank.proofs.buckets.list_bucket.Given as goal

abbrev pub invariant-loop-at : goal.invariant-loop-at
invariant-loop-at l = record {
  whole : list_of (lists_in l.buckets.before.items l.buckets.lasts.items) l.number ≡ chain l.buckets.before.items l.at l.at ++ reverse l.places.items;
  within : l.at ≤ length l.buckets.before.items;
}

abbrev pub decreases-loop-at : goal.decreases-loop-at
decreases-loop-at l = l.at
