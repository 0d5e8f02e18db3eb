use Rattle.std.proofs.Common.{◌≡◌, None}
use Rattle.hs_history.specs.Story.{gives_back}
use Rattle.hs_core.specs.Core.{stepped}
use Rattle.hs_workers_examples.proofs.StepLemmas.{steps_on}
use Rattle.hs_workers_examples.proofs.CallLemmas.{does_on}
use Rattle.hs_workers_examples.proofs.worker.give_back.Goals as goal

pub returns-clause-worker : goal.returns-clause-worker
returns-clause-worker g c =
    let w = c.args.worker.now in
    let n = w.seat.known.number in
    let p = c.args.problem.now in
    let log = w.replica.log in
    let ticket = c.in-Some.ticket in
    does_on c.args.table.now p w.seat log w.held c.requires c.give_back.new.seat None (λ found left. left ≡ stepped found n (gives_back ticket) found.spare) c.give_back.ensures
    (λ found left knows h. steps_on p n log found left w.held (gives_back ticket) found.spare knows h)
