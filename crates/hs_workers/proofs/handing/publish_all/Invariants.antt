-- what was found so far is in the log
use Rattle.std.proofs.Common.{ℕ, ◌<◌, get_or, Contains}
use Rattle.hs_types.specs.Interned.{entry_of}
use Rattle.hs_types.specs.Translations.{AreFound}
use Rattle.hs_rules.specs.Conclusions.{DeducedData}
use Rattle.hs_core.specs.Core.{log_of}
use Rattle.hs_core.specs.Draining.{SameFlight}
use Rattle.hs_workers.specs.Working.{StepsInHold}
use Rattle.hs_workers.proofs.handing.publish_all.Given as goal

abbrev pub invariant-loop-deduced : goal.invariant-loop-deduced
invariant-loop-deduced l = record {
  goes : StepsInHold l.fn.seat l.seat l.fn.hold l.hold;
  exported : AreFound l.replica.ids l.hold.core.ids l.exported;
  flight : SameFlight l.fn.hold.core l.hold.core;
  there : (k : ℕ) (d : DeducedData) → k < l.deduced-index → Contains (log_of l.hold.core) (entry_of l.replica.ids (get_or l.found k d).row);
}
