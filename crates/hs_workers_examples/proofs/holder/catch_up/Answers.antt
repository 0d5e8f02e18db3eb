use Rattle.hs_workers_examples.proofs.HoldLemmas.{holds_caught_up}
use Rattle.hs_workers_examples.proofs.holder.catch_up.Goals as goal

pub returns-clause-holder : goal.returns-clause-holder
returns-clause-holder g c =
    let w = c.args.worker.now in
    holds_caught_up c.args.table.now c.args.problem.now w.seat c.args.hold.now w.replica.log w.held c.requires c.catch_up.new.replica.log c.know.ensures c.catch_up.ensures.begins
