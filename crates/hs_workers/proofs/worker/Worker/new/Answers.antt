use Rattle.hs_workers.proofs.HoldLemmas.{loaded_none}
use Rattle.hs_workers.proofs.worker.Worker.new.Goals as goal

pub invariant_of-result : goal.invariant_of-result
invariant_of-result c =
    let stock = c.new-stock.result in
    loaded_none c.args.common.now.table c.args.common.now.problem c.args.seat stock.replica.ids stock.replica.log stock.jobs.items c.requires.free c.requires.nothing c.new-stock.ensures.log c.new-stock.ensures.jobs
