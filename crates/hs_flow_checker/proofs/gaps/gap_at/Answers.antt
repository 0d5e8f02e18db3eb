use Rattle.std.proofs.Common.{◌≡◌, refl, ap, subst}
use Rattle.hs_scheme.specs.flow.Points.{PointsData, point_at}
use Rattle.hs_scheme.specs.Problem.{ProblemData}
use Rattle.hs_flow_checker.proofs.GapLemmas.{demand_by, gap_by_demands}
use Rattle.hs_flow_checker.proofs.gaps.gap_at.Goals as goal

pub returns-then-demands_none : goal.returns-then-demands_none
returns-then-demands_none c = λ pair of d.
    let p = c.args.problem.now in
    let points = ap (λ (q : ProblemData). q.points) c.problem.view_is in
    let own = point_at p.points c.args.point in
    let by = demand_by p c.args.point own.rule own.head c.args_of-args.result.now c.requires.point refl refl
    (subst (λ (x : PointsData). c.args_of-args.result.now ≡ (point_at x c.args.point).args) points c.args_of-args.ensures.args) pair d in
    absurd (c.demands_none.ensures p c.requires.most c.if-demands_none.true c.args.point by.0 pair of by.1.1)

pub returns : goal.returns
returns c =
    let p = c.args.problem.now in
    let points = ap (λ (q : ProblemData). q.points) c.problem.view_is in
    gap_by_demands p c.args.point c.rule_of-rule.result c.head_of-head.result c.args_of-args.result.now c.requires.point
    (subst (λ (x : PointsData). c.rule_of-rule.result ≡ (point_at x c.args.point).rule) points c.rule_of-rule.ensures.rule)
    (subst (λ (x : PointsData). c.head_of-head.result ≡ (point_at x c.args.point).head) points c.head_of-head.ensures.head)
    (subst (λ (x : PointsData). c.args_of-args.result.now ≡ (point_at x c.args.point).args) points c.args_of-args.ensures.args) c.args.kind c.gap_of.result c.gap_of.ensures

pub returns-then-is_marked : goal.returns-then-is_marked
returns-then-is_marked c = λ pair of d. absurd (c.requires.inert c.args.point pair (c.is_marked.ensures.0 c.if-is_marked.true) d)
