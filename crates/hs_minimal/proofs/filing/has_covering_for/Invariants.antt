-- so far none covers it
use Rattle.std.proofs.Common.{ℕ, take, Contains}
use Rattle.hs_types.specs.Interned.{type_of_id}
use Rattle.hs_weak.specs.Reads.{last_state}
use Rattle.hs_strength.specs.Remembered.{Remembers}
use Rattle.hs_reads.specs.Lists.{list_of}
use Rattle.hs_minimal.specs.Ends.{rows_ending}
use Rattle.hs_minimal.specs.Strongest.{IsCoveredByOther, end_of_row}
use Rattle.hs_minimal.proofs.filing.has_covering_for.Given as goal

abbrev pub invariant-loop-member : goal.invariant-loop-member
invariant-loop-member l = record {
  memo : Remembers l.types l.strengths;
  none : (t : ℕ) → Contains (take l.member-index l.members) t → IsCoveredByOther l.types (rows_ending (list_of l.filed l.row.point) (end_of_row l.types l.row) (last_state (type_of_id l.types t))) l.row → ⊥;
}
