use Rattle.std.proofs.Common.{sym, subst, List, Contains, ◌↔◌}
use Rattle.std.proofs.lemmas.Result.{err_from_is_err_and}
use Rattle.hs_table.specs.Entries.{EntryData, InShape}
use Rattle.hs_types.specs.Interned.{RowData}
use Rattle.hs_checker.specs.Numbers.{entries_of}
use Rattle.hs_checker.proofs.checking.check.Goals as goal

pub returns-in_err-rows-clause-fault : goal.returns-in_err-rows-clause-fault
returns-in_err-rows-clause-fault c = let e = err_from_is_err_and c.from_residual.result c.from_residual.ensures.1 in rw (e.1, e.2) tt

pub check_table-checked-requires-clause-entries : goal.check_table-checked-requires-clause-entries
check_table-checked-requires-clause-entries c =
    subst (λ (rs : List RowData). (e : EntryData) → Contains (entries_of c.table_rows.new.interner rs) e ↔ (Contains c.args.table.now e × InShape c.args.problem.now e)) (sym c.as_slice.ensures.value) c.in_ok-rows.ensures.rows
