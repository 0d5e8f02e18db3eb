use Rattle.std.proofs.Common.{◌≡◌, sym, ◌∙◌, ap, subst, ℕ, ◌<◌, length, true, false, arith}
use Rattle.hs_scheme.specs.flow.Points.{PointsData, point_at}
use Rattle.hs_scheme.specs.Problem.{ProblemData}
use Rattle.hs_table.specs.Types.{TypeTree, IsType}
use Rattle.hs_table.specs.Entries.{Env, EntryData, Has, IsEnv}
use Rattle.hs_checker.proofs.ShapeLemmas.{shape_whole, shape_parts}
use Rattle.hs_checker.proofs.shape.is_in_shape.Goals as goal

pub returns-then-is_env : goal.returns-then-is_env
returns-then-is_env c =
    let p = c.args.problem.now in
    let e = c.args.entry.now in
    let points = ap (λ (q : ProblemData). q.points) c.problem.view_is in
    let point = ap (λ (x : EntryData). x.point) c.entry.view_is in
    let env = c.as_slice.ensures.value ∙ ap (λ (x : EntryData). x.env) c.entry.view_is in
    let ty = ap (λ (x : EntryData). x.ty) c.entry.view_is in
    let lt : e.point < length p.points.points = omega (arith, c.if-entry-count.false, c.count.ensures.points, ap (λ (x : PointsData). length x.points) points, point) in
    let rule : c.rule_of-rule.result ≡ (point_at p.points e.point).rule = c.rule_of-rule.ensures.rule ∙ λ i. (point_at (points i) (point i)).rule in
    let envs = subst (λ (x : Env). IsEnv c.parameters.result x × ((j : ℕ) (a : TypeTree) → Has x j a → IsType c.states-states.result a)) env (c.is_env.ensures.0 c.if-is_env.true) in (
      λ h. shape_whole p e c.rule_of-rule.result c.states-states.result c.parameters.result lt rule c.parameters.ensures c.states-states.ensures envs (subst (λ (z : TypeTree). IsType c.states-states.result z) ty (c.is_type.ensures.0 h)),
      λ shape. c.is_type.ensures.1 (subst (λ (z : TypeTree). IsType c.states-states.result z) (sym ty) (shape_parts p e c.rule_of-rule.result c.states-states.result c.parameters.result lt rule c.parameters.ensures c.states-states.ensures shape).1),
    )

pub returns-else-is_env : goal.returns-else-is_env
returns-else-is_env c =
    let p = c.args.problem.now in
    let e = c.args.entry.now in
    let points = ap (λ (q : ProblemData). q.points) c.problem.view_is in
    let point = ap (λ (x : EntryData). x.point) c.entry.view_is in
    let env = c.as_slice.ensures.value ∙ ap (λ (x : EntryData). x.env) c.entry.view_is in
    let lt : e.point < length p.points.points = omega (arith, c.if-entry-count.false, c.count.ensures.points, ap (λ (x : PointsData). length x.points) points, point) in
    let rule : c.rule_of-rule.result ≡ (point_at p.points e.point).rule = c.rule_of-rule.ensures.rule ∙ λ i. (point_at (points i) (point i)).rule in (
      λ h. let f : true ≡ false = sym h ∙ c.if-is_env.false in absurd (cc),
      λ shape. c.is_env.ensures.1 (subst (λ (x : Env). IsEnv c.parameters.result x × ((j : ℕ) (a : TypeTree) → Has x j a → IsType c.states-states.result a)) (sym env)
          (shape_parts p e c.rule_of-rule.result c.states-states.result c.parameters.result lt rule c.parameters.ensures c.states-states.ensures shape).0),
    )
