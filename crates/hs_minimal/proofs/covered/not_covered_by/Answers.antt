use Rattle.std.proofs.Common.{refl, ◌∙◌}
use Rattle.hs_types.specs.Interned.{IsRow}
use Rattle.hs_minimal.proofs.CoverLemmas.{row_in, covers_in, at_index, none_left, one_gone, one_left, all_left, not_so}
use Rattle.hs_minimal.proofs.covered.not_covered_by.Goals as goal

pub loop-own-init : goal.loop-own-init
loop-own-init c = record { same = refl; left = none_left c.args.types.now c.args.row.now c.args.rows.now c.new-left.result.items c.new-left.ensures.items }

pub covers-requires-clause-entry : goal.covers-requires-clause-entry
covers-requires-clause-entry c = row_in c.args.types.now c.loop-own.types c.loop-own.invariant.same c.args.row.now c.requires.row

pub covers-requires-clause-other : goal.covers-requires-clause-other
covers-requires-clause-other c =
    row_in c.args.types.now c.loop-own.types c.loop-own.invariant.same c.own-item.result (at_index (IsRow c.args.types.now) c.args.rows.now c.loop-own.own-index c.own-item.result c.requires.rows c.loop-own-test.true c.own-item.is)

pub loop-own-preserved-then-branch : goal.loop-own-preserved-then-branch
loop-own-preserved-then-branch c =
    let I = c.args.types.now in
    let tells = covers_in I c.loop-own.types c.loop-own.invariant.same c.args.row.now c.own-item.result c.in_ok-covers.field-0 c.in_ok-covers.ensures.ok in
    record {
      same = c.covers.ensures.same ∙ c.loop-own.invariant.same;
      left = one_gone I c.args.row.now c.args.rows.now c.loop-own.own-index c.own-item.result c.loop-own-test.true c.own-item.is c.loop-own.left.items c.loop-own.invariant.left (tells.0 c.if-branch.true);
    }

pub loop-own-preserved : goal.loop-own-preserved
loop-own-preserved c =
    let I = c.args.types.now in
    let tells = covers_in I c.loop-own.types c.loop-own.invariant.same c.args.row.now c.own-item.result c.in_ok-covers.field-0 c.in_ok-covers.ensures.ok in
    record {
      same = c.covers.ensures.same ∙ c.loop-own.invariant.same;
      left = one_left I c.args.row.now c.args.rows.now c.loop-own.own-index c.own-item.result c.loop-own-test.true c.own-item.is c.loop-own.left.items c.loop-own.invariant.left
          (not_so c.in_ok-covers.field-0 _ c.if-branch.false tells) c.push.new.self.items c.in_ok-push.ensures.items;
    }

pub returns-in_err-covers-clause-same : goal.returns-in_err-covers-clause-same
returns-in_err-covers-clause-same c = c.covers.ensures.same ∙ c.loop-own.invariant.same

pub returns-in_err-push-clause-same : goal.returns-in_err-push-clause-same
returns-in_err-push-clause-same c = c.covers.ensures.same ∙ c.loop-own.invariant.same

pub returns-clause-left : goal.returns-clause-left
returns-clause-left c = all_left c.args.types.now c.args.row.now c.args.rows.now c.loop-own.own-index c.loop-own-test.false c.loop-own.left.items c.loop-own.invariant.left
