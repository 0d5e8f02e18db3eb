use Rattle.std.proofs.Common.{refl, ◌∙◌}
use Rattle.hs_scheme.proofs.Lists.{none_in}
use Rattle.hs_weak.specs.Strength.{AsStrongAs, Covers}
use Rattle.hs_types.specs.Interned.{RowData, IsRow, entry_of}
use Rattle.hs_strength.proofs.Rows.{each_more}
use Rattle.hs_minimal.proofs.CoverLemmas.{covers_none, row_in, covers_in, at_index, not_so}
use Rattle.hs_minimal.proofs.covered.covers_some.Goals as goal

pub loop-other-init : goal.loop-other-init
loop-other-init c = record { same = refl; none = λ r there h. none_in r there }

pub covers-requires-clause-entry : goal.covers-requires-clause-entry
covers-requires-clause-entry c = row_in c.args.types.now c.loop-other.types c.loop-other.invariant.same c.args.row.now c.requires.row

pub covers-requires-clause-other : goal.covers-requires-clause-other
covers-requires-clause-other c =
    row_in c.args.types.now c.loop-other.types c.loop-other.invariant.same c.other-item.result (at_index (IsRow c.args.types.now) c.args.rows.now c.loop-other.other-index c.other-item.result c.requires.rows c.loop-other-test.true c.other-item.is)

pub loop-other-preserved : goal.loop-other-preserved
loop-other-preserved c =
    let I = c.args.types.now in
    let tells = covers_in I c.loop-other.types c.loop-other.invariant.same c.args.row.now c.other-item.result c.in_ok-covers.field-0 c.in_ok-covers.ensures.ok in
    record {
      same = c.covers.ensures.same ∙ c.loop-other.invariant.same;
      none = each_more (λ (r : RowData). Covers AsStrongAs (entry_of I c.args.row.now) (entry_of I r) → ⊥) c.args.rows.now c.loop-other.other-index c.other-item.result c.loop-other-test.true c.other-item.is c.loop-other.invariant.none
          (not_so c.in_ok-covers.field-0 _ c.if-branch.false tells);
    }

pub returns-then-branch-clause-same : goal.returns-then-branch-clause-same
returns-then-branch-clause-same c = c.covers.ensures.same ∙ c.loop-other.invariant.same

pub returns-in_err-covers-clause-same : goal.returns-in_err-covers-clause-same
returns-in_err-covers-clause-same c = c.covers.ensures.same ∙ c.loop-other.invariant.same

pub returns-clause-ok : goal.returns-clause-ok
returns-clause-ok c = λ r there covers. absurd (covers_none c.args.types.now c.args.row.now c.args.rows.now c.loop-other.other-index c.loop-other-test.false c.loop-other.invariant.none r there covers)
