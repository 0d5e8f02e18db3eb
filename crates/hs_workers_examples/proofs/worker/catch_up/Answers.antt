use Rattle.hs_workers_examples.proofs.CallLemmas.{looked}
use Rattle.hs_workers_examples.proofs.worker.catch_up.Goals as goal

pub returns-clause-worker : goal.returns-clause-worker
returns-clause-worker g c =
    let w = c.args.worker.now in
    looked c.args.table.now c.args.problem.now w.seat w.replica.log w.held c.requires c.catch_up.new.seat c.catch_up.new.replica.log c.know.ensures c.catch_up.ensures.seat c.catch_up.ensures.begins
