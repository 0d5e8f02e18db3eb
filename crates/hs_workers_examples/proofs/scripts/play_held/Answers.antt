use Rattle.hs_workers_examples.proofs.HoldLemmas.{enters}
use Rattle.hs_workers_examples.proofs.scripts.play_held.Goals as goal

pub make_held_calls-requires : goal.make_held_calls-requires
make_held_calls-requires g c =
    let w = c.worker_at-worker.result in
    enters c.share-table.result.0 c.args.problem.now w.seat c.enter-hold.new.seat c.enter-hold.result w.replica.log w.held c.worker_at-worker.ensures.worker
    c.enter-hold.ensures.turn c.enter-hold.ensures.finds c.enter-hold.ensures.seat c.enter-hold.ensures.holds
