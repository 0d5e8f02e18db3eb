use Rattle.std.proofs.Common.{◌∙◌, None}
use Rattle.hs_core.specs.Core.{state_of}
use Rattle.hs_core.proofs.Flying.{put_same, finished_flight, given_flight}
use Rattle.hs_workers.proofs.HoldLemmas.{goes_by, goes_trans, still_holds}
use Rattle.hs_workers.proofs.handing.settle.Goals as goal

pub returns-then-publish_job-clause-goes : goal.returns-then-publish_job-clause-goes
returns-then-publish_job-clause-goes c =
    goes_trans c.args.seat.now c.publish_job.new.seat c.finish.new.seat c.args.hold.now c.publish_job.new.hold c.finish.new.self c.publish_job.ensures.goes
    (goes_by c.publish_job.new.seat c.finish.new.seat c.publish_job.new.hold c.finish.new.self c.publish_job.ensures.goes.holds c.finish.ensures.turn c.finish.ensures.told c.finish.ensures.holds)

pub returns-then-publish_job-clause-flight : goal.returns-then-publish_job-clause-flight
returns-then-publish_job-clause-flight c = λ t.
    let a = c.publish_job.new.hold.core in
    let b = c.finish.new.self.core in
    finished_flight a b c.publish_job.new.seat.known.number c.args.job.now.ticket a.spare c.finish.ensures.core t
    ∙ put_same c.args.job.now.ticket None (state_of c.args.hold.now.core).flight (state_of a).flight c.publish_job.ensures.flight t

pub give_back-requires-clause-ticket : goal.give_back-requires-clause-ticket
give_back-requires-clause-ticket c =
    still_holds c.args.seat.now c.publish_job.new.seat c.args.hold.now c.publish_job.new.hold c.publish_job.ensures.goes c.publish_job.ensures.flight c.args.job.now.ticket (c.args.job.now.work, c.requires.flies)

pub returns-clause-goes : goal.returns-clause-goes
returns-clause-goes c =
    goes_trans c.args.seat.now c.publish_job.new.seat c.give_back.new.seat c.args.hold.now c.publish_job.new.hold c.give_back.new.self c.publish_job.ensures.goes
    (goes_by c.publish_job.new.seat c.give_back.new.seat c.publish_job.new.hold c.give_back.new.self c.publish_job.ensures.goes.holds c.give_back.ensures.turn c.give_back.ensures.told c.give_back.ensures.holds)

pub returns-clause-flight : goal.returns-clause-flight
returns-clause-flight c = λ t.
    let a = c.publish_job.new.hold.core in
    let b = c.give_back.new.self.core in
    given_flight a b c.publish_job.new.seat.known.number c.args.job.now.ticket a.spare c.give_back.ensures.core t
    ∙ put_same c.args.job.now.ticket None (state_of c.args.hold.now.core).flight (state_of a).flight c.publish_job.ensures.flight t
