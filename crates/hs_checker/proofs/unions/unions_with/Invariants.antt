-- the rows so far
use Rattle.std.proofs.Common.{ℕ, take, Contains, ◌↔◌, Bor}
use Rattle.hs_table.specs.Entries.{EntryData}
use Rattle.hs_types.specs.Interned.{RowData, Grows}
use Rattle.hs_checker.specs.Any.{AnyOf}
use Rattle.hs_checker.specs.Numbers.{opened_by, AreEnvs, AreRowsFor, IsJoined}
use Rattle.hs_checker.proofs.unions.unions_with.Given as goal

abbrev pub invariant-loop-row : goal.invariant-loop-row
invariant-loop-row l = record {
  grows : Grows l.fn.types l.types;
  range : (n : ℕ) → AreEnvs n l.fn.types l.kept → AreRowsFor n l.fn.types l.rows → AreEnvs n l.types l.found.items;
  each : (u : ℕ) (e : EntryData) → Contains (opened_by l.types u l.found.items) e ↔ AnyOf (λ (r : Bor RowData) (y : EntryData). IsJoined l.fn.types u l.kept r.now y) (take l.row-index l.rows) e;
}
