use Rattle.std.proofs.Common.{sym, ap, subst, ◌∙◌}
use Rattle.hs_scheme.specs.Problem.{ProblemData}
use Rattle.hs_flow.specs.Dependents.{HasDependents}
use Rattle.hs_workers.specs.Working.{CommonData}
use Rattle.hs_core.proofs.Flying.{given_flight}
use Rattle.hs_workers.proofs.HoldLemmas.{goes_by}
use Rattle.hs_workers.proofs.handing.do_one.Goals as goal

pub give_back-requires-clause-ticket : goal.give_back-requires-clause-ticket
give_back-requires-clause-ticket c = (c.args.job.now.work, c.requires.flies)

pub returns-then-not-going-clause-goes : goal.returns-then-not-going-clause-goes
returns-then-not-going-clause-goes c =
    goes_by c.args.seat.now c.give_back.new.seat c.args.hold.now c.give_back.new.self c.requires.holds c.give_back.ensures.turn c.give_back.ensures.told c.give_back.ensures.holds

pub returns-then-not-going-clause-flight : goal.returns-then-not-going-clause-flight
returns-then-not-going-clause-flight c =
    let a = c.args.hold.now.core in
    given_flight a c.give_back.new.self.core c.args.seat.now.known.number c.args.job.now.ticket a.spare c.give_back.ensures.core

pub returns-clause-goes : goal.returns-clause-goes
returns-clause-goes c =
    goes_by c.args.seat.now c.work-done.new.seat c.args.hold.now c.work-done.new.self c.requires.holds c.work-done.ensures.turn c.work-done.ensures.told c.work-done.ensures.holds

pub work-done-requires-clause-dependents : goal.work-done-requires-clause-dependents
work-done-requires-clause-dependents c =
    subst (λ (q : ProblemData). HasDependents q.points q.flow.pairs c.common.inside.dependents.now)
    (ap (λ (v : CommonData). v.problem) c.common.view_is ∙ sym c.requires.upon) c.common.invariant
