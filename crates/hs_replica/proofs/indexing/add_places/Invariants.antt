-- so many places are listed
use Rattle.std.proofs.Common.{◌-◌, ◌≤◌, length}
use Rattle.hs_replica.specs.Index.{list_at, KeepsIndex}
use Rattle.hs_replica.proofs.indexing.add_places.Given as goal

abbrev pub invariant-loop-indexed : goal.invariant-loop-indexed
invariant-loop-indexed l = record {
  more : l.initial.indexed ≤ l.indexed;
  within : l.indexed ≤ length l.rows;
  index : KeepsIndex l.rows l.initial.indexed l.indexed (list_at l.initial.lists) (list_at l.lists);
}

abbrev pub decreases-loop-indexed : goal.decreases-loop-indexed
decreases-loop-indexed l = length l.rows - l.indexed
