use Rattle.std.proofs.Common.{◌≡◌, sym, subst, None}
use Rattle.hs_history.specs.Story.{finishes}
use Rattle.hs_core.specs.Core.{stepped}
use Rattle.hs_workers_examples.specs.Working.{IsWorker}
use Rattle.hs_workers_examples.proofs.StepLemmas.{steps_on}
use Rattle.hs_workers_examples.proofs.CallLemmas.{does_on, may_finish}
use Rattle.hs_workers_examples.proofs.worker.finish.Goals as goal

pub finish-requires-clause-closed : goal.finish-requires-clause-closed
finish-requires-clause-closed g c =
    let w = c.catch_up.new.worker in
    may_finish c.args.table.now c.args.problem.now w.seat w.replica.log w.held c.catch_up.ensures.worker c.in-Some.work c.in-Some.ticket c.in-Some.is c.catch_up.ensures.whole
    (c.is_closed.ensures.closed c.if-not-is_closed.false)

pub returns-clause-worker : goal.returns-clause-worker
returns-clause-worker g c =
    let w = c.catch_up.new.worker in
    let n = w.seat.known.number in
    let p = c.args.problem.now in
    let log = w.replica.log in
    let ticket = c.in-Some.ticket in
    subst (λ xs. IsWorker c.args.table.now p c.finish.new.seat xs None) (sym c.is_closed.ensures.log)
    (does_on c.args.table.now p w.seat log w.held c.catch_up.ensures.worker c.finish.new.seat None (λ found left. left ≡ stepped found n (finishes ticket) found.spare) c.finish.ensures
    (λ found left knows h. steps_on p n log found left w.held (finishes ticket) found.spare knows h))
