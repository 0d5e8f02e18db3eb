-- the old places are kept, and each behind them is this one
use Rattle.std.proofs.Common.{◌≡◌, ◌-◌, ◌≤◌, ◌<◌, ℕ, max, length, slice_index, vec_capacity}
use Rattle.hs_scheme.proofs.flow.fill.Given as goal

abbrev pub invariant-loop-starts : goal.invariant-loop-starts
invariant-loop-starts l = record {
  kept : (k : ℕ) → k < length l.initial.starts.items → slice_index l.starts.items k ≡ slice_index l.initial.starts.items k;
  added : (k : ℕ) → length l.initial.starts.items ≤ k → k < length l.starts.items → slice_index l.starts.items k ≡ l.place;
  longer : length l.initial.starts.items ≤ length l.starts.items;
  room : vec_capacity l.starts ≡ vec_capacity l.initial.starts;
  few : length l.starts.items ≤ max (length l.initial.starts.items) l.count;
}

abbrev pub decreases-loop-starts : goal.decreases-loop-starts
decreases-loop-starts l = l.count - length l.starts.items
