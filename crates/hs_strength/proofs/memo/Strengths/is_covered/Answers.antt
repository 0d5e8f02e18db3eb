use Rattle.std.proofs.Common.{◌∙◌, sym, arith}
use Rattle.std.proofs.lemmas.Bool.{false≢true}
use Rattle.hs_weak.specs.Strength.{AsStrongAs, Covers}
use Rattle.hs_types.specs.Interned.{RowData, entry_of}
use Rattle.hs_strength.specs.Remembered.{IsCovered}
use Rattle.hs_strength.proofs.Rows.{each_more, each_all}
use Rattle.hs_strength.proofs.Comparing.{refused}
use Rattle.hs_strength.proofs.memo.Strengths.is_covered.Goals as goal

pub loop-row-preserved : goal.loop-row-preserved
loop-row-preserved c =
    let I = c.args.types.now in
    record {
      memo = c.covers.ensures.memo;
      lacks = each_more (λ (r : RowData). Covers AsStrongAs (entry_of I r) (entry_of I c.args.entry.now) → ⊥) c.args.by.now c.loop-row.row-index c.row-item.result c.loop-row-test.true c.row-item.is c.loop-row.invariant.lacks
          (λ h. false≢true (sym c.if-branch.false ∙ c.in_ok-covers.ensures.ok.1 h));
    }

pub returns-clause-ok : goal.returns-clause-ok
returns-clause-ok c =
    let I = c.args.types.now in
    refused (IsCovered I c.args.entry.now c.args.by.now)
    (λ f. each_all (λ (r : RowData). Covers AsStrongAs (entry_of I r) (entry_of I c.args.entry.now) → ⊥) c.args.by.now c.loop-row.row-index (omega (arith, c.loop-row-test.false)) c.loop-row.invariant.lacks f.0 f.1.0 f.1.1)
