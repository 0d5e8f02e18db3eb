use Rattle.std.proofs.Common.{◌≡◌, sym, ◌∙◌, ap, subst, ℕ, ◌<◌, ◌≤◌, List, [], length, slice_get, All, arith}
use Rattle.hs_scheme.specs.flow.Points.{PointsData, point_at, points_of}
use Rattle.hs_scheme.specs.Problem.{ProblemData}
use Rattle.std.proofs.lemmas.Option.{slice_get-get_or}
use Rattle.hs_scheme.specs.declared.term.Head.TheVariants.{Tm}
use Rattle.hs_rules.proofs.PointLemmas.{same_rule, few_arguments}
use Rattle.hs_rules.proofs.following.arguments.Goals as goal

pub returns-clause-few : goal.returns-clause-few
returns-clause-few c =
    let p = c.args.problem.now in
    let rules = p.sorted.scheme.rules in
    let all = subst (λ (q : ProblemData). q.points ≡ points_of q.sorted.scheme.rules) c.problem.view_is c.problem.invariant.points in
    let points = ap (λ (q : ProblemData). q.points) c.problem.view_is in
    let whole = points ∙ all in
    let few : length (points_of rules).points ≤ 500000 = omega (arith, c.count.ensures.few, c.count.ensures.points, ap (λ (x : PointsData). length x.points) whole) in
    let args_are = c.args_of.ensures.args ∙ ap (λ (x : PointsData). (point_at x c.args.point).args) whole in
    few_arguments rules c.args.point c.args_of.result.now few (λ i a e. ap (λ (xs : List ℕ). slice_get xs i) (sym args_are) ∙ e)
    (subst (λ (x : PointsData). All (λ a. a < length x.points) c.args_of.result.now) whole c.args_of.ensures.within)

pub returns-clause-in_rule : goal.returns-clause-in_rule
returns-clause-in_rule c = λ j a e.
    let p = c.args.problem.now in
    let rules = p.sorted.scheme.rules in
    let all = subst (λ (q : ProblemData). q.points ≡ points_of q.sorted.scheme.rules) c.problem.view_is c.problem.invariant.points in
    let points = ap (λ (q : ProblemData). q.points) c.problem.view_is in
    let args_are = c.args_of.ensures.args ∙ ap (λ (x : PointsData). (point_at x c.args.point).args) points in
    let at = ap (λ (x : PointsData). slice_get x.points c.args.point) (sym all) ∙ slice_get-get_or p.points.points c.args.point (record { rule = 0; head = Tm 0; args = [] }) c.requires in
    let r = same_rule rules c.args.point (point_at p.points c.args.point) at j a (ap (λ (xs : List ℕ). slice_get xs j) (sym args_are) ∙ e) in
    record { of = r.0; at = ap (λ (x : PointsData). slice_get x.points a) all ∙ r.1; in_rule = r.2 }
