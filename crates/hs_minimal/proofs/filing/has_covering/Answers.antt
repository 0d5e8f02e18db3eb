use Rattle.std.proofs.Common.{refl, sym, ◌∙◌}
use Rattle.hs_scheme.proofs.Lists.{none_in}
use Rattle.hs_types.specs.Interned.{RowData, IsRow}
use Rattle.hs_strength.proofs.Rows.{each_more, each_all}
use Rattle.hs_strength.proofs.Comparing.{refused}
use Rattle.hs_minimal.specs.Strongest.{IsOtherCovering, IsCoveredByOther}
use Rattle.hs_minimal.proofs.CoverLemmas.{at_index, not_so}
use Rattle.hs_minimal.proofs.FilingLemmas.{rows_equal, rows_differ}
use Rattle.hs_minimal.proofs.filing.has_covering.Goals as goal

pub loop-other-init : goal.loop-other-init
loop-other-init c = record { memo = c.requires.memo; none = λ o m. absurd (none_in o m) }

pub covers-requires-clause-entry : goal.covers-requires-clause-entry
covers-requires-clause-entry c = at_index (IsRow c.args.types.now) c.args.rows.now c.loop-other.other-index c.other-item.result c.requires.rows c.loop-other-test.true c.other-item.is

pub loop-other-preserved-then-eq : goal.loop-other-preserved-then-eq
loop-other-preserved-then-eq c =
    let I = c.args.types.now in
    record {
      memo = c.loop-other.invariant.memo;
      none = each_more (λ (o : RowData). IsOtherCovering I c.args.row.now o → ⊥) c.args.rows.now c.loop-other.other-index c.other-item.result c.loop-other-test.true c.other-item.is c.loop-other.invariant.none
          (λ h. h.0 (rows_equal c.other-item.result c.args.row.now (sym c.eq.ensures ∙ c.if-eq.true)));
    }

pub loop-other-preserved : goal.loop-other-preserved
loop-other-preserved c =
    let I = c.args.types.now in
    record {
      memo = c.covers.ensures.memo;
      none = each_more (λ (o : RowData). IsOtherCovering I c.args.row.now o → ⊥) c.args.rows.now c.loop-other.other-index c.other-item.result c.loop-other-test.true c.other-item.is c.loop-other.invariant.none
          (λ h. not_so c.in_ok-covers.field-0 _ c.if-branch.false c.in_ok-covers.ensures.ok h.1);
    }

pub returns-then-branch-clause-ok : goal.returns-then-branch-clause-ok
returns-then-branch-clause-ok c =
    (λ _. (c.other-item.result, ((c.loop-other.other-index, c.loop-other-test.true, sym c.other-item.is), (rows_differ c.other-item.result c.args.row.now (sym c.eq.ensures ∙ c.if-eq.false), c.in_ok-covers.ensures.ok.0 c.if-branch.true))), λ _. refl)

pub returns-clause-ok : goal.returns-clause-ok
returns-clause-ok c =
    let I = c.args.types.now in
    refused (IsCoveredByOther I c.args.rows.now c.args.row.now) (λ f. each_all (λ (o : RowData). IsOtherCovering I c.args.row.now o → ⊥) c.args.rows.now c.loop-other.other-index c.loop-other-test.false c.loop-other.invariant.none f.0 f.1.0 f.1.1)
