-- those so far are in shape
use Rattle.std.proofs.Common.{ℕ, ◌<◌, get_or}
use Rattle.hs_table.specs.Entries.{InShape}
use Rattle.hs_types.specs.Interned.{RowData, entry_of}
use Rattle.hs_app.proofs.evidence.are_in_shape.Given as goal

abbrev pub invariant-loop-row : goal.invariant-loop-row
invariant-loop-row l = (k : ℕ) (d : RowData) → k < l.row-index → InShape l.problem (entry_of l.numbers (get_or l.rows k d))
