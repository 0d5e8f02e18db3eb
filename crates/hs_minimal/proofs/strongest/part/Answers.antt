use Rattle.std.proofs.Common.{◌∙◌, ap, Vec}
use Rattle.std.specs.declared.alloc.Global.{Global}
use Rattle.hs_types.specs.Interned.{RowData, IsRow}
use Rattle.hs_minimal.proofs.CoverLemmas.{at_index}
use Rattle.hs_minimal.proofs.StrongestLemmas.{parted_none, parted_all, one_kept_by, one_covered_by}
use Rattle.hs_minimal.proofs.strongest.part.Goals.{then-branch+in_ok-push, else-branch+in_ok-push-2}
use Rattle.hs_minimal.proofs.strongest.part.Goals as goal

pub loop-row-init : goal.loop-row-init
loop-row-init c = record { memo = c.requires.memo; parted = parted_none c.args.types.now c.args.filed.now c.args.rows.now c.new-kept.result.items c.new-covered.result.items c.new-kept.ensures.items c.new-covered.ensures.items }

pub is_covered_by_other-requires-clause-row : goal.is_covered_by_other-requires-clause-row
is_covered_by_other-requires-clause-row c = at_index (IsRow c.args.types.now) c.args.rows.now c.loop-row.row-index c.row-item.result c.requires.rows c.loop-row-test.true c.row-item.is

pub loop-row-preserved : goal.loop-row-preserved
loop-row-preserved c =
    let I = c.args.types.now in
    let filed = c.args.filed.now in
    let rows = c.args.rows.now in
    let k = c.loop-row.row-index in
    let row = c.row-item.result in
    let kept = c.loop-row.kept.items in
    let covered = c.loop-row.covered.items in
    let h = c.loop-row.invariant.parted in
    let tells = c.in_ok-is_covered_by_other.ensures in
    record {
      memo = c.is_covered_by_other.ensures.memo;
      parted = elim c.if-branch.branch [
        | then-branch+in_ok-push w ↦
            one_covered_by I filed rows c.requires.distinct k row c.loop-row-test.true c.row-item.is kept covered h c.if-branch.kept.items c.if-branch.covered.items (ap (λ (v : Vec RowData Global). v.items) w.kept-is) (ap (λ (v : Vec RowData Global). v.items) w.covered-is ∙ w.in_ok-push.ensures.items)
        | else-branch+in_ok-push-2 w ↦
            one_kept_by I filed rows c.requires.distinct k row c.loop-row-test.true c.row-item.is kept covered h c.if-branch.kept.items c.if-branch.covered.items (ap (λ (v : Vec RowData Global). v.items) w.kept-is ∙ w.in_ok-push-2.ensures.items) (ap (λ (v : Vec RowData Global). v.items) w.covered-is)
            (tells.none w.if-branch.false)
      ];
    }

pub returns-clause-parted : goal.returns-clause-parted
returns-clause-parted c = parted_all c.args.types.now c.args.filed.now c.args.rows.now c.loop-row.row-index c.loop-row-test.false c.loop-row.kept.items c.loop-row.covered.items c.loop-row.invariant.parted
