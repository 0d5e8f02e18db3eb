use Rattle.std.proofs.Common.{◌≡◌, ◌∙◌, ap, subst, length, arith, inl, inr}
use Rattle.std.proofs.lemmas.Bool.{cases_lt}
use Rattle.hs_scheme.specs.Problem.{ProblemData}
use Rattle.hs_workers_examples.specs.Working.{IsClosedAt}
use Rattle.hs_workers_examples.proofs.FollowingLemmas.{closed_work}
use Rattle.hs_workers_examples.proofs.forming.is_closed.Goals as goal

pub loop-point-preserved : goal.loop-point-preserved
loop-point-preserved g c =
    let before = c.loop-point.invariant in
    let point = c.loop-point.point in
    let p = c.args.problem.now in
    let now = subst (λ xs. IsClosedAt p xs c.args.work point) before.log (c.is_closed_at.ensures.closed c.if-not-is_closed_at.false) in
    record {
      log = c.is_closed_at.ensures.log ∙ before.log;
      closed = λ k lt. elim (cases_lt k point) [
        | inl below ↦ before.closed k below
        | inr above ↦ let same : point ≡ k = omega arith in subst (λ i. IsClosedAt p c.args.replica.now.log c.args.work i) same now
      ];
    }

pub returns-clause-closed : goal.returns-clause-closed
returns-clause-closed g c = λ yes.
    let points = ap (λ (q : ProblemData). length q.points.points) c.problem.view_is in
    closed_work c.args.problem.now c.args.replica.now.log c.args.work
    (λ k lt. c.loop-point.invariant.closed k (omega (arith, lt, points, c.loop-point-test.false, c.count-point-end.ensures.points)))
