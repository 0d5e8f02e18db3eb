-- those so far are closed or given back, and the others are carried
use Rattle.std.proofs.Common.{◌≡◌, ◌++◌}
use Rattle.hs_types.specs.Translations.{AreFound}
use Rattle.hs_core.specs.Core.{state_of}
use Rattle.hs_workers.specs.Jobs.{keys, Carries, CarriesAll}
use Rattle.hs_workers.specs.Working.{StepsInHold}
use Rattle.hs_workers.proofs.handing.hand_in.Given as goal

abbrev pub invariant-loop-job : goal.invariant-loop-job
invariant-loop-job l = record {
  goes : StepsInHold l.fn.seat l.seat l.fn.hold l.hold;
  exported : AreFound l.replica.ids l.hold.core.ids l.exported;
  carries : Carries l.seat.known.number (state_of l.hold.core).flight (keys l.job-iterator.rest.items);
  all : CarriesAll l.seat.known.number (state_of l.hold.core).flight (keys l.job-iterator.rest.items);
  whole : l.yielded ++ l.job-iterator.rest.items ≡ l.fn.jobs.items;
}
