use Rattle.std.proofs.Common.{sym}
use Rattle.hs_types.specs.Interned.{RowData}
use Rattle.hs_types.proofs.Numbers.{Grows-trans}
use Rattle.hs_strength.proofs.Rows.{each_more, each_all}
use Rattle.hs_minimal.specs.Following.{HasByRow}
use Rattle.hs_minimal.proofs.GrowingLemmas.{growing_stays, added_in_use}
use Rattle.hs_minimal.proofs.CompleteLemmas.{by_row_stays, by_row_before}
use Rattle.hs_minimal.proofs.children.add_by_children.Goals as goal

pub add_by_child-requires-clause-growing : goal.add_by_child-requires-clause-growing
add_by_child-requires-clause-growing c = growing_stays c.args.types.now c.args.growing.now c.requires.growing c.loop-row.types c.loop-row.invariant.grows

pub add_by_child-requires-clause-place : goal.add_by_child-requires-clause-place
add_by_child-requires-clause-place c = (c.requires.rows c.row-item.result (c.loop-row.row-index, c.loop-row-test.true, sym c.row-item.is)).1

pub add_by_child-requires-clause-row : goal.add_by_child-requires-clause-row
add_by_child-requires-clause-row c = (c.requires.rows c.row-item.result (c.loop-row.row-index, c.loop-row-test.true, sym c.row-item.is)).0

pub loop-row-preserved : goal.loop-row-preserved
loop-row-preserved c =
    let g = c.args.growing.now in
    let p = g.problem in
    let I = c.args.types.now in
    let L = c.loop-row.types in
    let J = c.add_by_child.new.types in
    let old = c.loop-row.found.items in
    let new = c.add_by_child.new.found.items in
    let row = c.row-item.result in
    let h = c.loop-row.invariant in
    let in_use = added_in_use I g c.requires.growing row (c.requires.rows row (c.loop-row.row-index, c.loop-row-test.true, sym c.row-item.is)).0 in
    let more = c.in_ok-add_by_child.ensures.keeps in
    record {
      grows = Grows-trans I L J h.grows c.in_ok-add_by_child.ensures.grows;
      found = c.in_ok-add_by_child.ensures.found;
      keeps = λ e m. more e (h.keeps e m);
      told = each_more (λ (r : RowData). HasByRow p I J new c.args.point c.args.terminal c.args.place r) c.args.rows.now c.loop-row.row-index row c.loop-row-test.true c.row-item.is (λ r m. by_row_stays p c.args.point c.args.terminal I L J old new more c.args.place r (h.told r m))
          (by_row_before p c.args.point c.args.terminal I L J h.grows new c.args.place row in_use c.in_ok-add_by_child.ensures.told);
    }

pub returns-clause-told : goal.returns-clause-told
returns-clause-told c =
    each_all (λ (r : RowData). HasByRow c.args.growing.now.problem c.args.types.now c.loop-row.types c.loop-row.found.items c.args.point c.args.terminal c.args.place r) c.args.rows.now c.loop-row.row-index c.loop-row-test.false c.loop-row.invariant.told
