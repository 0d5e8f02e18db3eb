-- so far none covers it
use Rattle.std.proofs.Common.{ℕ, take, Contains}
use Rattle.hs_table.specs.Types.{TypeTree}
use Rattle.hs_types.specs.Interned.{set_of_id}
use Rattle.hs_weak.specs.Reads.{last_state}
use Rattle.hs_strength.specs.Remembered.{Remembers}
use Rattle.hs_reads.specs.Lists.{list_of}
use Rattle.hs_minimal.specs.Ends.{rows_ending}
use Rattle.hs_minimal.specs.Strongest.{IsCoveredByOther, end_of_row}
use Rattle.hs_minimal.proofs.filing.is_covered_by_other.Given as goal

abbrev pub invariant-loop-set : goal.invariant-loop-set
invariant-loop-set l = record {
  memo : Remembers l.types l.strengths;
  none : (s : ℕ) → Contains (take l.set-index l.sets) s → (a : TypeTree) → Contains (set_of_id l.types s) a
      → IsCoveredByOther l.types (rows_ending (list_of l.filed l.row.point) (end_of_row l.types l.row) (last_state a)) l.row → ⊥;
}
