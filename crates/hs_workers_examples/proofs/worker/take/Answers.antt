use Rattle.std.proofs.Common.{sym, subst}
use Rattle.hs_core.specs.Answers.{Takes}
use Rattle.hs_shared.specs.Calls.{Does}
use Rattle.hs_workers_examples.specs.Working.{WorkHeld, IsWorker, held_after}
use Rattle.hs_workers_examples.proofs.StepLemmas.{expected, takes_on}
use Rattle.hs_workers_examples.proofs.CallLemmas.{does_on}
use Rattle.hs_workers_examples.proofs.worker.take.Goals as goal

pub returns-clause-worker : goal.returns-clause-worker
returns-clause-worker g c =
    let w = c.args.worker.now in
    let n = w.seat.known.number in
    let log = w.replica.log in
    let new = c.take.new.seat in
    let answer = c.expect-taken.result in
    let done : Does (λ found left. Takes found n answer left) w.seat new = expected _ c.take.result answer c.expect-taken.ensures c.take.ensures.ok in
    subst (λ (held : WorkHeld). IsWorker c.args.table.now c.args.problem.now new log held) (sym c.held_after-worker.ensures)
    (does_on c.args.table.now c.args.problem.now w.seat log w.held c.requires new (held_after answer) (λ found left. Takes found n answer left) done
    (λ found left knows h. takes_on c.args.problem.now n log found left w.held answer knows h))
