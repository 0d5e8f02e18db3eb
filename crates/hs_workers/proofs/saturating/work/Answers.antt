use Rattle.hs_workers.proofs.FormingLemmas.{ok_more}
use Rattle.hs_workers.proofs.AnswerLemmas.{by_more}
use Rattle.hs_workers.proofs.saturating.work.Goals as goal

pub returns-clause-workers : goal.returns-clause-workers
returns-clause-workers g c =
    ok_more _ _ c.end_by_one.result (λ left goes. by_more c.args.workers c.in_ok-core.core left c.requires.some c.in_ok-core.ensures.workers goes) c.end_by_one.ensures.goes
