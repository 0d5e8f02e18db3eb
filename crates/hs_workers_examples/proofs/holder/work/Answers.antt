use Rattle.std.proofs.Common.{sym, subst}
use Rattle.hs_scheme.specs.Problem.{ProblemData}
use Rattle.hs_flow.specs.Dependents.{HasDependents}
use Rattle.hs_workers_examples.proofs.HoldLemmas.{holds_worked}
use Rattle.hs_workers_examples.proofs.holder.work.Goals as goal

pub work-done-requires-clause-dependents : goal.work-done-requires-clause-dependents
work-done-requires-clause-dependents g c =
    subst (λ (q : ProblemData). HasDependents q.points q.flow.pairs c.args.dependents.now) (sym c.requires.holder.works.upon) c.requires.dependents

pub returns : goal.returns
returns g c =
    let w = c.args.worker.now in
    holds_worked c.args.table.now c.args.problem.now w.seat c.args.hold.now w.replica.log w.held c.requires.holder c.work-done.new.seat c.work-done.new.self
    c.work-done.ensures.turn c.work-done.ensures.told c.work-done.ensures.holds c.work-done.ensures.goes
