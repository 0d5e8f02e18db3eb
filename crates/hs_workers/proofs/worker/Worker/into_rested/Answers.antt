use Rattle.std.proofs.Common.{ap, ◌∙◌, subst, List}
use Rattle.hs_shared.specs.Seats.{Sees}
use Rattle.hs_workers.specs.declared.job.Job.{Job}
use Rattle.hs_workers.specs.Jobs.{keys, CarriesAll}
use Rattle.hs_workers.specs.Working.{WorkerData}
use Rattle.hs_workers.proofs.JobLemmas.{no_jobs}
use Rattle.hs_workers.proofs.worker.Worker.into_rested.Goals as goal

pub into_rested-requires : goal.into_rested-requires
into_rested-requires c = c.self.invariant.free.seated.seat.free

pub returns-clause-rests : goal.returns-clause-rests
returns-clause-rests c = (c.self.inside.seat, c.into_rested.ensures, c.self.invariant.free.seated.seat.turn ∙ ap (λ (w : WorkerData). w.table) c.self.view_is)

pub returns-clause-idle : goal.returns-clause-idle
returns-clause-idle c =
    let seat = c.self.inside.seat in
    let none = no_jobs c.self.inside.stock.jobs.items (ap (λ (w : WorkerData). w.works) c.self.view_is ∙ c.requires) in
    (seat, c.into_rested.ensures, subst (λ (js : List Job). Sees seat (λ base state. CarriesAll seat.known.number state.flight (keys js))) none c.self.invariant.all)
