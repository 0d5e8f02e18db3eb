use Rattle.std.proofs.Common.{rules, ◌∙◌, ap, subst, sym, replicate, Bool, arith}
use borrow.Author.Count.{below_more}
use Rattle.hs_sorts.specs.declared.measures.Mark.TheVariants.{New}
use Rattle.hs_sorts.specs.Search.{Measuring, IsStarted, IsNodeWalk}
use Rattle.hs_sorts.proofs.Searching.{search_none, measuring}
use Rattle.hs_sorts.proofs.search.measure.Goals as goal

pub loop-start-init : goal.loop-start-init
loop-start-init c =
    let all = c.in_ok-marks.ensures.items_if_clones_equal (λ y h. search rules) in
    record {
      search = search_none c.args.store.now c.in_ok-marks.marks.items c.new.result.items (all ∙ ap (λ n. replicate n New) c.len-count.ensures.len) c.new.ensures.items;
      empty = c.new.ensures.items;
      started = λ i h. absurd (omega arith);
    }

pub walk-requires : goal.walk-requires
walk-requires c = record {
  start = omega (arith, c.loop-start-test.true, c.len-count.ensures.len);
  search = c.loop-start.invariant.search;
  empty = c.loop-start.invariant.empty;
  store = c.len-count.ensures.store;
}

pub returns-then-not-branch : goal.returns-then-not-branch
returns-then-not-branch c =
    let d = c.walk.new.self in
    subst (λ (b : Bool). IsNodeWalk c.args.store.now c.loop-start.search.marks.items d.marks.items d.path.items c.loop-start.start b) c.if-not-branch.true c.in_ok-walk.ensures

pub loop-start-preserved : goal.loop-start-preserved
loop-start-preserved c =
    let d = c.walk.new.self in
    let w = subst (λ (b : Bool). IsNodeWalk c.args.store.now c.loop-start.search.marks.items d.marks.items d.path.items c.loop-start.start b) c.if-not-branch.false c.in_ok-walk.ensures in
    record {
      search = w.search;
      empty = w.empty;
      started = below_more (IsStarted d.marks.items) c.loop-start.start (λ i below. w.kept i (c.loop-start.invariant.started i below)) w.started;
    }

pub returns : goal.returns
returns c =
    subst (Measuring c.args.store.now) (sym c.of.ensures)
    (measuring c.args.store.now c.loop-start.search.marks.items c.loop-start.search.path.items
    c.loop-start.invariant.search c.loop-start.invariant.empty (λ i below. c.loop-start.invariant.started i (omega (arith, below, c.loop-start-test.false, c.len-count.ensures.len))))
