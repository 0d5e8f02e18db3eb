use Rattle.std.proofs.Common.{sym, ◌∙◌, subst, List, All, get_or}
use Rattle.std.proofs.lemmas.List.{get_or_default}
use Rattle.hs_table.specs.Entries.{EntryData, InShape}
use Rattle.hs_table_examples.specs.Following.{IsClosedAt}
use Rattle.hs_table_examples.proofs.Lists.{one_more, all_of_them}
use Rattle.hs_table_examples.proofs.following.is_closed_at_all.Goals as goal

pub is_closed_at-requires : goal.is_closed_at-requires
is_closed_at-requires c = subst (λ (xs : List EntryData). All (InShape c.args.problem.now) xs) (sym c.loop-point.invariant.log) c.requires

pub loop-point-preserved : goal.loop-point-preserved
loop-point-preserved c =
    let log = c.args.replica.now.log in
    let points = c.args.points.now in
    let n = c.loop-point.point-index in
    record {
      log = c.is_closed_at.ensures.log ∙ c.loop-point.invariant.log;
      closed =
          one_more (IsClosedAt c.args.problem.now log c.args.work) points n (get_or points n 0) c.loop-point-test.true (get_or_default points n 0 (get_or points n 0) c.loop-point-test.true) c.loop-point.invariant.closed
          (subst (λ (xs : List EntryData). IsClosedAt c.args.problem.now xs c.args.work (get_or points n 0)) c.loop-point.invariant.log (c.in_ok-is_closed_at.ensures.closed c.if-not-branch.false));
    }

pub returns : goal.returns
returns c = λ _.
    all_of_them (IsClosedAt c.args.problem.now c.args.replica.now.log c.args.work) c.args.points.now c.loop-point.point-index c.loop-point-test.false c.loop-point.invariant.closed
