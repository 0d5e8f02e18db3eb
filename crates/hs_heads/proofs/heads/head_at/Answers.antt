use Rattle.std.proofs.Common.{subst}
use Rattle.hs_scheme.specs.flow.Points.{ParameterWithin, point_at}
use Rattle.hs_scheme.specs.Problem.{ProblemData}
use Rattle.hs_heads.proofs.HeadLemmas.{head_within}
use Rattle.hs_heads.proofs.heads.head_at.Goals as goal

pub returns-clause-parameter : goal.returns-clause-parameter
returns-clause-parameter c =
    let p = c.args.problem.now in
    let point = c.args.point in
    head_within p (point_at p.points point).rule c.head_of.result c.know_sorted_problem.ensures
    (subst (λ (q : ProblemData). ParameterWithin q.points.params (point_at q.points point).rule c.head_of.result) c.problem.view_is c.head_of.ensures.parameter)
