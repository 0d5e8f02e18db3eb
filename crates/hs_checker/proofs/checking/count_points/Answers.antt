use Rattle.std.proofs.Common.{sym, ap, subst, ◌<◌, ◌≤◌, List, length, Contains, arith, inl, inr}
use Rattle.std.proofs.lemmas.Result.{err_from_is_err_and}
use Rattle.hs_scheme.specs.Problem.{ProblemData}
use Rattle.hs_table.specs.Entries.{EntryData}
use Rattle.hs_table.specs.Follows.{Follows}
use Rattle.hs_table_laws.proofs.Places.{within_from}
use Rattle.hs_table_plain.proofs.TableLemmas.{below_or_last}
use Rattle.hs_types.proofs.Numbers.{Grows-trans}
use Rattle.hs_checker.specs.Numbers.{entries_of}
use Rattle.hs_checker.specs.Slots.{AreInShape, IsCountAt}
use Rattle.hs_checker.specs.Inert.{AreInert}
use Rattle.hs_checker.specs.Checked.{IsGap}
use Rattle.hs_checker.proofs.CountLemmas.{counted_more, counted_all}
use Rattle.hs_checker.proofs.NumberLemmas.{rows_grow, entries_stay}
use Rattle.hs_checker.proofs.checking.count_points.Goals as goal

pub count_at-requires-clause-rows : goal.count_at-requires-clause-rows
count_at-requires-clause-rows c = rows_grow c.args.types.now c.loop-point.types c.loop-point.invariant.grows c.args.index.now c.requires.rows

pub count_at-requires-clause-shape : goal.count_at-requires-clause-shape
count_at-requires-clause-shape c = subst (λ (F : List EntryData). AreInShape c.args.problem.now F) (sym (entries_stay c.args.types.now c.loop-point.types c.loop-point.invariant.grows c.args.index.now c.requires.rows)) c.requires.shape

pub count_at-requires-clause-inert : goal.count_at-requires-clause-inert
count_at-requires-clause-inert c = subst (λ (F : List EntryData). AreInert c.args.problem.now F c.args.inert.now) (sym (entries_stay c.args.types.now c.loop-point.types c.loop-point.invariant.grows c.args.index.now c.requires.rows)) c.requires.inert

pub loop-point-preserved : goal.loop-point-preserved
loop-point-preserved c =
    let p = c.args.problem.now in
    let I = c.args.types.now in
    let J = c.loop-point.types in
    let E = entries_of I c.args.index.now in
    let k = c.loop-point.point in
    let stay = entries_stay I J c.loop-point.invariant.grows c.args.index.now c.requires.rows in
    record {
      grows = Grows-trans I J c.count_at.new.types c.loop-point.invariant.grows c.in_ok-added.ensures.grows;
      closed = λ e lt f. elim (below_or_last e.point k lt) [
        | inl below ↦ c.loop-point.invariant.closed e below f
        | inr same ↦ subst (λ (F : List EntryData). Contains F e) stay (c.in_ok-added.ensures.closed e same (subst (λ (F : List EntryData). Follows p F e) (sym stay) f))
      ];
      counted = counted_more p E k c.loop-point.count c.saturating_add-count.result c.in_ok-added.added (subst (λ (F : List EntryData). IsCountAt p F k c.in_ok-added.added) stay c.in_ok-added.ensures.count) c.saturating_add-count.ensures c.loop-point.invariant.counted;
    }

pub returns-clause-closed : goal.returns-clause-closed
returns-clause-closed c = λ e f.
    let points = ap (λ (q : ProblemData). length q.points.points) c.problem.view_is in
    let within = within_from c.args.problem.now.points.points e.point f.1.of f.1.at in
    let below : e.point < c.loop-point.point = omega (arith, points, within, c.count-point-end.ensures.points, c.loop-point-test.false) in
    c.loop-point.invariant.closed e below f

pub returns-clause-count : goal.returns-clause-count
returns-clause-count c =
    let points = ap (λ (q : ProblemData). length q.points.points) c.problem.view_is in
    let all : length c.args.problem.now.points.points ≤ c.loop-point.point = omega (arith, points, c.count-point-end.ensures.points, c.loop-point-test.false) in
    counted_all c.args.problem.now (entries_of c.args.types.now c.args.index.now) c.loop-point.point c.loop-point.count all c.loop-point.invariant.counted

pub returns-in_err-added-clause-missing : goal.returns-in_err-added-clause-missing
returns-in_err-added-clause-missing c =
    let p = c.args.problem.now in
    let stay = entries_stay c.args.types.now c.loop-point.types c.loop-point.invariant.grows c.args.index.now c.requires.rows in
    let gap = subst (λ (F : List EntryData). IsGap p F c.in_err-added.field-0.0) stay c.in_err-added.ensures.missing in
    let e = err_from_is_err_and c.from_residual.result c.from_residual.ensures.1 in
    rw (e.1, e.2) gap
