use Rattle.std.proofs.Common.{◌≡◌, sym, ◌∙◌, ap, arith}
use Rattle.hs_types.specs.Interned.{RowData}
use Rattle.hs_choices.proofs.Ordered.{low_first, low_more, end_before, end_at_last}
use Rattle.hs_choices.proofs.rows.end_from.Goals as goal

pub loop-to-init : goal.loop-to-init
loop-to-init c = record {
  within = c.requires.from.within;
  behind = omega arith;
  low = low_first c.args.rows.now c.args.point c.args.from c.requires.order c.requires.from;
}

pub loop-to-preserved : goal.loop-to-preserved
loop-to-preserved c =
    let h = c.loop-to.invariant in
    let r = c.index-rows-to.result in
    let at : r.point ≡ c.args.point = ap (λ (x : RowData). x.point) c.index-rows-to.is ∙ c.if-rows-to.false in
    record {
      within = omega (arith, c.loop-to-test.true);
      behind = omega (arith, h.behind);
      low = low_more c.args.rows.now c.args.point c.args.from c.requires.order c.requires.from c.loop-to.to r c.loop-to-test.true c.index-rows-to.is at h.low;
    }

pub returns-then-rows-to : goal.returns-then-rows-to
returns-then-rows-to c =
    let h = c.loop-to.invariant in
    let r = c.index-rows-to.result in
    end_before c.args.rows.now c.args.point c.args.from c.requires.order c.requires.from c.loop-to.to r c.loop-to-test.true h.behind c.index-rows-to.is
    (λ same. c.if-rows-to.true (sym (ap (λ (x : RowData). x.point) c.index-rows-to.is) ∙ same)) h.low

pub returns : goal.returns
returns c = end_at_last c.args.rows.now c.args.point c.args.from c.requires.order c.requires.from c.loop-to.to c.loop-to.invariant.within c.loop-to-test.false c.loop-to.invariant.low
