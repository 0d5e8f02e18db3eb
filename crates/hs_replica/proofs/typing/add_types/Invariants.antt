-- the lists are an index as far as it is reached
use Rattle.std.proofs.Common.{ℕ, ◌-◌, ◌<◌, ◌≤◌, length, get_or}
use Rattle.hs_replica.specs.Index.{log_of, list_at, KeepsTyped}
use Rattle.hs_replica.proofs.typing.add_types.Given as goal

abbrev pub invariant-loop-place : goal.invariant-loop-place
invariant-loop-place l = record {
  long : l.point < length l.by_type.items;
  more : (p : ℕ) → get_or l.fn.by_type.items p 0 ≤ get_or l.by_type.items p 0;
  index : KeepsTyped l.interner (log_of l.interner l.rows) l.indexed l.fn.by_type.items l.by_type.items (list_at l.fn.lists) (list_at l.lists);
}

abbrev pub decreases-loop-place : goal.decreases-loop-place
decreases-loop-place l = l.indexed - get_or l.by_type.items l.point 0
