use Rattle.std.proofs.Common.{ap, length, arith}
use Rattle.hs_scheme.specs.Problem.{ProblemData}
use Rattle.hs_types.specs.Interned.{entry_of}
use Rattle.hs_table_examples.proofs.Closing.{closed_place}
use Rattle.hs_table_examples.proofs.following.is_closed_place.Goals as goal

pub list-points-requires : goal.list-points-requires
list-points-requires c = omega (arith, c.requires.dependents.each, ap (λ (q : ProblemData). length q.points.points) c.problem.view_is)

pub returns : goal.returns
returns c = λ yes.
    closed_place c.args.problem.now c.args.replica.now.log c.args.place (entry_of c.args.replica.now.ids c.row-point.result) c.args.dependents.now c.list-points.result.now
    (omega arith) c.row-point.ensures.entry c.requires.dependents c.list-points.ensures (c.in_ok-closed.ensures yes)
