use Rattle.hs_workers_examples.proofs.HoldLemmas.{enters}
use Rattle.hs_workers_examples.proofs.works.play_works.Goals as goal

pub do_works-requires-clause-holder : goal.do_works-requires-clause-holder
do_works-requires-clause-holder g c =
    let w = c.worker_at-worker.result in
    enters c.share-table.result.0 c.args.problem.now w.seat c.enter-hold.new.seat c.enter-hold.result w.replica.log w.held c.worker_at-worker.ensures.worker
    c.enter-hold.ensures.turn c.enter-hold.ensures.finds c.enter-hold.ensures.seat c.enter-hold.ensures.holds
