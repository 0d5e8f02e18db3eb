-- those so far are of lesser points
use Rattle.std.proofs.Common.{ℕ, ◌<◌, get_or, Bor}
use Rattle.hs_types.specs.Interned.{RowData}
use Rattle.hs_checker.proofs.index.start_at.Given as goal

abbrev pub invariant-loop-start : goal.invariant-loop-start
invariant-loop-start l = (k : ℕ) (d : Bor RowData) → k < l.start → (get_or l.rows k d).now.point < l.point
