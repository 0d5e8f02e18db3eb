-- so far none covers it but itself
use Rattle.std.proofs.Common.{take, Contains}
use Rattle.hs_types.specs.Interned.{RowData}
use Rattle.hs_strength.specs.Remembered.{Remembers}
use Rattle.hs_minimal.specs.Strongest.{IsOtherCovering}
use Rattle.hs_minimal.proofs.filing.has_covering.Given as goal

abbrev pub invariant-loop-other : goal.invariant-loop-other
invariant-loop-other l = record {
  memo : Remembers l.types l.strengths;
  none : (o : RowData) → Contains (take l.other-index l.rows) o → IsOtherCovering l.types l.row o → ⊥;
}
