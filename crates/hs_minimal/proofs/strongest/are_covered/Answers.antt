use Rattle.hs_scheme.proofs.Lists.{none_in}
use Rattle.hs_types.specs.Interned.{RowData, IsRow}
use Rattle.hs_strength.proofs.Rows.{each_more, each_all}
use Rattle.hs_minimal.specs.Strongest.{IsFiledAmong, IsOtherCovering}
use Rattle.hs_minimal.proofs.CoverLemmas.{at_index}
use Rattle.hs_minimal.proofs.strongest.are_covered.Goals as goal

pub loop-row-init : goal.loop-row-init
loop-row-init c = record { memo = c.requires.memo; covered = λ r m. absurd (none_in r m) }

pub is_covered_by_other-requires-clause-row : goal.is_covered_by_other-requires-clause-row
is_covered_by_other-requires-clause-row c = at_index (IsRow c.args.types.now) c.args.rows.now c.loop-row.row-index c.row-item.result c.requires.rows c.loop-row-test.true c.row-item.is

pub loop-row-preserved : goal.loop-row-preserved
loop-row-preserved c =
    let I = c.args.types.now in
    record {
      memo = c.is_covered_by_other.ensures.memo;
      covered = each_more (λ (r : RowData). (o : RowData) × (IsFiledAmong c.args.filed.now o × IsOtherCovering I r o)) c.args.rows.now c.loop-row.row-index c.row-item.result c.loop-row-test.true c.row-item.is c.loop-row.invariant.covered
          (c.in_ok-is_covered_by_other.ensures.some c.if-not-branch.false);
    }

pub returns-clause-ok : goal.returns-clause-ok
returns-clause-ok c = λ _. each_all (λ (r : RowData). (o : RowData) × (IsFiledAmong c.args.filed.now o × IsOtherCovering c.args.types.now r o)) c.args.rows.now c.loop-row.row-index c.loop-row-test.false c.loop-row.invariant.covered
