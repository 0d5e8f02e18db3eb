-- those taken so far are carried
use Rattle.std.proofs.Common.{◌≡◌, All}
use Rattle.hs_core.specs.Core.{state_of, log_of}
use Rattle.hs_workers.specs.Jobs.{keys, Carries, CarriesAll, IsUnformed}
use Rattle.hs_workers.specs.Working.{StepsInHold}
use Rattle.hs_workers.proofs.handing.take_some.Given as goal

abbrev pub invariant-loop : goal.invariant-loop
invariant-loop l = record {
  goes : StepsInHold l.fn.seat l.seat l.fn.hold l.hold;
  log : log_of l.hold.core ≡ log_of l.fn.hold.core;
  carries : Carries l.seat.known.number (state_of l.hold.core).flight (keys l.jobs.items);
  all : CarriesAll l.seat.known.number (state_of l.hold.core).flight (keys l.jobs.items);
  unformed : All IsUnformed l.jobs.items;
}
