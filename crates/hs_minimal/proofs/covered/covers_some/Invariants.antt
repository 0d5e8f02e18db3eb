-- so far it covers none of them
use Rattle.std.proofs.Common.{◌≡◌, take, Contains}
use Rattle.hs_weak.specs.Strength.{AsStrongAs, Covers}
use Rattle.hs_types.specs.Interned.{RowData, entry_of}
use Rattle.hs_minimal.proofs.covered.covers_some.Given as goal

abbrev pub invariant-loop-other : goal.invariant-loop-other
invariant-loop-other l = record {
  same : l.types ≡ l.fn.types;
  none : (r : RowData) → Contains (take l.other-index l.rows) r → Covers AsStrongAs (entry_of l.fn.types l.row) (entry_of l.fn.types r) → ⊥;
}
