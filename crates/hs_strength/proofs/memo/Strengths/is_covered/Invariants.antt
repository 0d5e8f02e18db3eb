-- so far no entry covers it
use Rattle.std.proofs.Common.{take, Contains}
use Rattle.hs_weak.specs.Strength.{AsStrongAs, Covers}
use Rattle.hs_types.specs.Interned.{RowData, entry_of}
use Rattle.hs_strength.specs.Remembered.{Remembers}
use Rattle.hs_strength.proofs.memo.Strengths.is_covered.Given as goal

abbrev pub invariant-loop-row : goal.invariant-loop-row
invariant-loop-row l = record {
  memo : Remembers l.types l.self;
  lacks : (r : RowData) → Contains (take l.row-index l.by) r → Covers AsStrongAs (entry_of l.types r) (entry_of l.types l.entry) → ⊥;
}
