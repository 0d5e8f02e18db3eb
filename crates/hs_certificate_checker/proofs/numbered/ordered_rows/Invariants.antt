-- the rows so far are those of the first entries
use Rattle.std.proofs.Common.{◌≤◌, All, take, map, length, vec_capacity}
use Rattle.hs_types.specs.Interned.{IsRow, entry_of}
use Rattle.hs_choices.specs.Numbered.{AreTableRows}
use Rattle.hs_certificate_checker.proofs.numbered.ordered_rows.Given as goal

abbrev pub invariant-loop-row : goal.invariant-loop-row
invariant-loop-row l = record {
  range : All (IsRow l.interner) l.rows.items;
  rows : AreTableRows l.problem (take l.row-index (map (entry_of l.interner) l.table)) l.interner l.rows.items;
  few : length l.rows.items ≤ l.row-index;
  room : length l.table ≤ vec_capacity l.rows;
}
