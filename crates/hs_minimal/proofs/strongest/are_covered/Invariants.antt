-- each so far is covered
use Rattle.std.proofs.Common.{take, Contains}
use Rattle.hs_types.specs.Interned.{RowData}
use Rattle.hs_strength.specs.Remembered.{Remembers}
use Rattle.hs_minimal.specs.Strongest.{IsFiledAmong, IsOtherCovering}
use Rattle.hs_minimal.proofs.strongest.are_covered.Given as goal

abbrev pub invariant-loop-row : goal.invariant-loop-row
invariant-loop-row l = record {
  memo : Remembers l.types l.strengths;
  covered : (r : RowData) → Contains (take l.row-index l.rows) r → (o : RowData) × (IsFiledAmong l.filed o × IsOtherCovering l.types r o);
}
