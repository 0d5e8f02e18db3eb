use Rattle.hs_core.specs.Core.{deduction_of}
use Rattle.hs_workers_examples.proofs.StepLemmas.{expected, same_story, publishes_on}
use Rattle.hs_workers_examples.proofs.HoldLemmas.{holds_on, held_ticket, held_follows}
use Rattle.hs_workers_examples.proofs.holder.publish_one.Goals as goal

pub publish-published-requires-clause-ticket : goal.publish-published-requires-clause-ticket
publish-published-requires-clause-ticket g c =
    let w = c.args.worker.now in
    held_ticket c.args.table.now c.args.problem.now w.seat c.args.hold.now w.replica.log w.held c.requires.holder c.args.work c.args.ticket c.requires.held

pub publish-published-requires-clause-follows : goal.publish-published-requires-clause-follows
publish-published-requires-clause-follows g c =
    let w = c.args.worker.now in
    held_follows c.args.table.now c.args.problem.now w.seat c.args.hold.now w.replica.log w.held c.requires.holder w.replica.ids c.args.deduced.now c.requires.deduced

pub returns : goal.returns
returns g c =
    let w = c.args.worker.now in
    let n = w.seat.known.number in
    let p = c.args.problem.now in
    let log = w.replica.log in
    let core = c.args.hold.now.core in
    let new = c.publish-published.new.self in
    let answer = c.expect.result in
    let done = expected _ c.publish-published.result answer c.expect.ensures c.publish-published.ensures.ok in
    holds_on c.args.table.now p w.seat c.args.hold.now log w.held c.requires.holder c.publish-published.new.seat new w.held c.publish-published.ensures.turn c.publish-published.ensures.told c.publish-published.ensures.holds
    (publishes_on p n log done.0 new.core w.held c.args.ticket (deduction_of w.replica.ids c.args.deduced.now) answer (same_story p n log core done.0 w.held done.2 done.3 c.requires.holder.works) done.4).1
