-- those so far are at the point or at lesser ones
use Rattle.std.proofs.Common.{ℕ, ◌+◌, ◌-◌, ◌<◌, ◌≤◌, length, get_or}
use Rattle.hs_types.specs.Interned.{RowData}
use Rattle.hs_choices.proofs.rows.end_from.Given as goal

abbrev pub invariant-loop-to : goal.invariant-loop-to
invariant-loop-to l = record {
  within : l.to ≤ length l.rows;
  behind : l.from ≤ l.to;
  low : (k : ℕ) (d : RowData) → k < l.to → (get_or l.rows k d).point < l.point + 1;
}

abbrev pub decreases-loop-to : goal.decreases-loop-to
decreases-loop-to l = length l.rows - l.to
