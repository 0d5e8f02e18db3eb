use Rattle.std.proofs.Common.{sym, ◌∙◌, subst, ◌<◌}
use Rattle.hs_types.specs.Interned.{RowData, IsRow}
use Rattle.hs_minimal.proofs.CoverLemmas.{at_index}
use Rattle.hs_minimal.proofs.FilingLemmas.{filed_none, filed_all, filed_next}
use Rattle.hs_minimal.proofs.filing.file.Goals as goal

pub loop-row-init : goal.loop-row-init
loop-row-init c = record { long = c.in_ok-filed.ensures.len; filed = filed_none c.args.types.now c.args.rows.now c.in_ok-filed.filed.items c.in_ok-filed.ensures.none }

pub file_row-requires-clause-row : goal.file_row-requires-clause-row
file_row-requires-clause-row c = at_index (IsRow c.args.types.now) c.args.rows.now c.loop-row.row-index c.row-item.result c.requires.rows c.loop-row-test.true c.row-item.is

pub file_row-requires-clause-point : goal.file_row-requires-clause-point
file_row-requires-clause-point c =
    subst (λ n. c.row-item.result.point < n) (sym c.loop-row.invariant.long) (at_index (λ (r : RowData). r.point < c.args.points) c.args.rows.now c.loop-row.row-index c.row-item.result c.requires.points c.loop-row-test.true c.row-item.is)

pub loop-row-preserved : goal.loop-row-preserved
loop-row-preserved c =
    let e = c.in_ok-file_row.ensures in
    record {
      long = e.len ∙ c.loop-row.invariant.long;
      filed = filed_next c.args.types.now c.args.rows.now c.loop-row.row-index c.row-item.result c.loop-row-test.true c.row-item.is c.loop-row.filed.items c.loop-row.invariant.filed c.file_row.new.filed.items e.own e.keeps e.only;
    }

pub returns : goal.returns
returns c = filed_all c.args.types.now c.args.rows.now c.loop-row.row-index c.loop-row-test.false c.loop-row.filed.items c.loop-row.invariant.filed
