use Rattle.std.proofs.Common.{◌≡◌, ◌∙◌, ap, ℕ, List, length, arith}
use Rattle.hs_scheme.specs.flow.Points.{point_at}
use Rattle.hs_scheme.specs.Problem.{ProblemData}
use Rattle.hs_reads.proofs.ArgumentLemmas.{args_few}
use Rattle.hs_reads.proofs.becoming.given_at.Goals as goal

pub returns-clause-few : goal.returns-clause-few
returns-clause-few c =
    let p = c.args.problem.now in
    let w = c.args.point in
    let args : length c.args_of.result.now ≡ length (point_at p.points w).args =
    ap (λ (us : List ℕ). length us) (c.args_of.ensures.args ∙ ap (λ (z : ProblemData). (point_at z.points w).args) c.problem.view_is) in
    let points : c.count.result ≡ length p.points.points = c.count.ensures.points ∙ ap (λ (z : ProblemData). length z.points.points) c.problem.view_is in
    omega (arith, args, points, c.count.ensures.few, args_few p c.know_sorted_problem.ensures w c.requires)
