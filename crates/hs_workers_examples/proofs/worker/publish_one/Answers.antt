use Rattle.hs_core.specs.Core.{deduction_of}
use Rattle.hs_core.specs.Answers.{Publishes}
use Rattle.hs_shared.specs.Calls.{Does}
use Rattle.hs_workers_examples.proofs.StepLemmas.{expected, publishes_on}
use Rattle.hs_workers_examples.proofs.CallLemmas.{does_on, its_ticket}
use Rattle.hs_workers_examples.proofs.worker.publish_one.Goals as goal

pub publish-requires-clause-ticket : goal.publish-requires-clause-ticket
publish-requires-clause-ticket g c =
    let w = c.args.worker.now in
    its_ticket c.args.table.now c.args.problem.now w.seat w.replica.log w.held c.requires.worker c.args.work c.args.ticket c.requires.held

pub returns-clause-worker : goal.returns-clause-worker
returns-clause-worker g c =
    let w = c.args.worker.now in
    let n = w.seat.known.number in
    let d = deduction_of w.replica.ids c.args.deduced.now in
    let new = c.publish.new.seat in
    let answer = c.expect.result in
    let done : Does (λ found left. Publishes found n c.args.ticket d answer left) w.seat new = expected _ c.publish.result answer c.expect.ensures c.publish.ensures.ok in
    does_on c.args.table.now c.args.problem.now w.seat w.replica.log w.held c.requires.worker new w.held (λ found left. Publishes found n c.args.ticket d answer left) done
    (λ found left knows h. publishes_on c.args.problem.now n w.replica.log found left w.held c.args.ticket d answer knows h)
