use Rattle.std.proofs.Common.{◌≡◌, sym, ◌∙◌, ap, subst, List, ◌+◌, true, false, Contains, ◌↔◌, Vec, Global}
use Rattle.std.proofs.lemmas.List.{take_all}
use Rattle.hs_table.specs.Entries.{EntryData, InShape}
use Rattle.hs_types.specs.Interned.{RowData}
use Rattle.hs_checker.specs.Numbers.{entries_of}
use Rattle.hs_checker.proofs.TableLemmas.{AreSoFar, so_far_row, so_far_skip, so_far_none}
use Rattle.hs_checker.proofs.import.table_rows.Goals as goal
use Rattle.hs_checker.proofs.import.table_rows.Goals.{then-is_in_shape+in_ok-import_entry+in_ok-push, else-is_in_shape}

pub loop-entry-init : goal.loop-entry-init
loop-entry-init c = let h = so_far_none c.args.problem.now c.args.table.now c.args.interner.now c.new-rows.result.items c.new-rows.ensures.items in record { range = h.range; rows = h.rows }

pub import_entry-requires : goal.import_entry-requires
import_entry-requires c = record { problem = c.args.problem.now; shape = c.is_in_shape.ensures.0 c.if-is_in_shape.true }

pub loop-entry-preserved : goal.loop-entry-preserved
loop-entry-preserved c =
    let p = c.args.problem.now in
    let T = c.args.table.now in
    let inv = c.loop-entry.invariant in
    let before : AreSoFar p T c.loop-entry.interner c.loop-entry.entry-index c.loop-entry.rows.items = record { range = inv.range; rows = inv.rows } in
    let h : AreSoFar p T c.if-is_in_shape.interner (c.loop-entry.entry-index + 1) c.if-is_in_shape.rows.items = elim c.if-is_in_shape.branch [
      | then-is_in_shape+in_ok-import_entry+in_ok-push w ↦ so_far_row p T c.loop-entry.interner c.loop-entry.entry-index c.loop-entry.rows.items c.entry-item.result c.loop-entry-test.true c.entry-item.is before
          w.import_entry.new.interner c.if-is_in_shape.interner w.interner-is w.import_entry.ensures.grows w.in_ok-import_entry.field-0 w.in_ok-import_entry.ensures.row w.in_ok-import_entry.ensures.entry (c.is_in_shape.ensures.0 w.if-is_in_shape.true)
          c.if-is_in_shape.rows.items (ap (λ (v : Vec RowData Global). v.items) w.rows-is ∙ w.in_ok-push.ensures.items)
      | else-is_in_shape w ↦ so_far_skip p T c.loop-entry.interner c.loop-entry.entry-index c.loop-entry.rows.items c.entry-item.result c.loop-entry-test.true c.entry-item.is before
          c.if-is_in_shape.interner w.interner-is c.if-is_in_shape.rows.items (ap (λ (v : Vec RowData Global). v.items) w.rows-is) (λ shape. let f : false ≡ true = sym w.if-is_in_shape.false ∙ c.is_in_shape.ensures.1 shape in absurd (cc))
    ] in
    record { range = h.range; rows = h.rows }

pub returns-clause-rows : goal.returns-clause-rows
returns-clause-rows c = λ e.
    subst (λ (es : List EntryData). Contains (entries_of c.loop-entry.interner c.loop-entry.rows.items) e ↔ (Contains es e × InShape c.args.problem.now e)) (take_all c.loop-entry.entry-index c.args.table.now c.loop-entry-test.false) (c.loop-entry.invariant.rows e)
