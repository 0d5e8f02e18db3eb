-- the rows so far are those of the first entries
use Rattle.std.proofs.Common.{All, take}
use Rattle.hs_types.specs.Interned.{IsRow, Grows}
use Rattle.hs_choices.specs.Numbered.{AreTableRows}
use Rattle.hs_certificate_checker.proofs.import.table_rows.Given as goal

abbrev pub invariant-loop-entry : goal.invariant-loop-entry
invariant-loop-entry l = record {
  grows : Grows l.fn.interner l.interner;
  range : All (IsRow l.interner) l.rows.items;
  rows : AreTableRows l.problem (take l.entry-index l.table) l.interner l.rows.items;
}
