-- the lists are an index as far as it is reached
use Rattle.std.proofs.Common.{◌-◌, ◌<◌, length, get_or}
use Rattle.hs_replica.specs.Index.{log_of, list_at, KeepsAsked}
use Rattle.hs_replica.proofs.asking.add_asks.Given as goal

abbrev pub invariant-loop-place : goal.invariant-loop-place
invariant-loop-place l = record {
  long : l.point < length l.asked.items;
  index : KeepsAsked l.interner (log_of l.interner l.rows) l.indexed l.fn.asked.items l.asked.items (list_at l.fn.lists) (list_at l.lists);
}

abbrev pub decreases-loop-place : goal.decreases-loop-place
decreases-loop-place l = l.indexed - get_or l.asked.items l.point 0
