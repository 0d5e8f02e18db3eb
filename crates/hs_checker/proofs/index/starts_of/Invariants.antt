-- the starts so far, and as many rows of lesser points as the last one says
use Rattle.std.proofs.Common.{◌≡◌, ℕ, ◌<◌, ◌≤◌, length, get_or, map, Bor, ◌+◌, vec_capacity}
use Rattle.hs_types.specs.Interned.{RowData}
use Rattle.hs_checker.specs.Order.{IsStartOfPoint}
use Rattle.hs_checker.proofs.index.starts_of.Given as goal

abbrev pub invariant-loop-point : goal.invariant-loop-point
invariant-loop-point l = record {
  within : l.known ≤ length l.rows;
  before : (k : ℕ) (d : Bor RowData) → k < l.known → (get_or l.rows k d).now.point < l.point;
  long : length l.starts.items ≡ l.point;
  each : (p d : ℕ) → p < length l.starts.items → IsStartOfPoint (map (λ (r : Bor RowData). r.now) l.rows) p (get_or l.starts.items p d);
  room : l.points + 1 ≤ vec_capacity l.starts;
}
