use Rattle.std.proofs.Common.{◌≡◌, sym, ◌∙◌, ap, ◌<◌, length, true, false, arith}
use Rattle.hs_scheme.specs.flow.Points.{PointsData, point_at}
use Rattle.hs_scheme.specs.Problem.{ProblemData}
use Rattle.hs_types.specs.Interned.{entry_of}
use Rattle.hs_checker.proofs.ShapeLemmas.{shape_whole, shape_parts}
use Rattle.hs_certificate_checker.proofs.row_shape.is_row_in_shape.Goals as goal

pub returns-then-is_env : goal.returns-then-is_env
returns-then-is_env c =
    let p = c.args.problem.now in
    let e = entry_of c.args.interner.now c.args.row.now in
    let points = ap (λ (q : ProblemData). q.points) c.problem.view_is in
    let lt : e.point < length p.points.points = omega (arith, c.if-row-count.false, c.count.ensures.points, ap (λ (x : PointsData). length x.points) points) in
    let rule : c.rule_of-rule.result ≡ (point_at p.points e.point).rule = c.rule_of-rule.ensures.rule ∙ λ i. (point_at (points i) e.point).rule in (
      λ h. shape_whole p e c.rule_of-rule.result c.state_count-states.result c.parameters.result lt rule c.parameters.ensures c.state_count-states.ensures (c.is_env.ensures.0 c.if-is_env.true) (c.is_type.ensures.0 h),
      λ shape. c.is_type.ensures.1 (shape_parts p e c.rule_of-rule.result c.state_count-states.result c.parameters.result lt rule c.parameters.ensures c.state_count-states.ensures shape).1,
    )

pub returns-else-is_env : goal.returns-else-is_env
returns-else-is_env c =
    let p = c.args.problem.now in
    let e = entry_of c.args.interner.now c.args.row.now in
    let points = ap (λ (q : ProblemData). q.points) c.problem.view_is in
    let lt : e.point < length p.points.points = omega (arith, c.if-row-count.false, c.count.ensures.points, ap (λ (x : PointsData). length x.points) points) in
    let rule : c.rule_of-rule.result ≡ (point_at p.points e.point).rule = c.rule_of-rule.ensures.rule ∙ λ i. (point_at (points i) e.point).rule in (
      λ h. let f : true ≡ false = sym h ∙ c.if-is_env.false in absurd (cc),
      λ shape. c.is_env.ensures.1 (shape_parts p e c.rule_of-rule.result c.state_count-states.result c.parameters.result lt rule c.parameters.ensures c.state_count-states.ensures shape).0,
    )
