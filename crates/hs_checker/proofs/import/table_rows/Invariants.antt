-- the rows so far are those of the first entries
use Rattle.std.proofs.Common.{take, Contains, ◌↔◌}
use Rattle.hs_table.specs.Entries.{EntryData, InShape}
use Rattle.hs_checker.specs.Numbers.{entries_of, AreRows}
use Rattle.hs_checker.proofs.import.table_rows.Given as goal

abbrev pub invariant-loop-entry : goal.invariant-loop-entry
invariant-loop-entry l = record {
  range : AreRows l.interner l.rows.items;
  rows : (e : EntryData) → Contains (entries_of l.interner l.rows.items) e ↔ (Contains (take l.entry-index l.table) e × InShape l.problem e);
}
