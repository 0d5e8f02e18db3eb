use Rattle.std.proofs.Common.{◌∙◌, subst}
use Rattle.hs_turn.specs.Seats.{RestsIn}
use Rattle.hs_workers.proofs.worker.run_worker.Goals as goal

pub into_rested-requires : goal.into_rested-requires
into_rested-requires g c = c.work_on.ensures.ends

pub returns-clause-rests : goal.returns-clause-rests
returns-clause-rests g c = subst (λ table. RestsIn table c.into_rested.result) (c.work_on.ensures.table ∙ c.new-worker.ensures) c.into_rested.ensures.rests
