-- the rows so far have given their types
use Rattle.std.proofs.Common.{take, Contains, ◌↔◌, Bor}
use Rattle.hs_table.specs.Types.{TypeTree}
use Rattle.hs_table_plain.specs.Enumeration.{body_type}
use Rattle.hs_types.specs.Interned.{RowData, entry_of, Grows}
use Rattle.hs_checker.specs.Any.{AnyOf}
use Rattle.hs_checker.specs.Numbers.{trees_of, AreTypes}
use Rattle.hs_checker.proofs.heads.body_types.Given as goal

abbrev pub invariant-loop-row : goal.invariant-loop-row
invariant-loop-row l = record {
  grows : Grows l.fn.types l.types;
  range : AreTypes l.types l.found.items;
  each : (t : TypeTree) → Contains (trees_of l.types l.found.items) t ↔ AnyOf (λ (r : Bor RowData) (t : TypeTree). Contains (body_type l.body (entry_of l.fn.types r.now)) t) (take l.row-index l.row-items) t;
}
