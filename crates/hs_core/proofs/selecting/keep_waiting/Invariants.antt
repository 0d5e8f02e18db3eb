-- those so far are known
use Rattle.std.proofs.Common.{◌≡◌, ◌++◌, All}
use Rattle.hs_types.specs.Interned.{entry_of}
use Rattle.hs_rules.specs.Conclusions.{DeducedData}
use Rattle.hs_core.specs.Core.{log_of}
use Rattle.hs_core.specs.Waiting.{Waits, IsThereOrWaits}
use Rattle.hs_core.specs.Selecting.{AreReady}
use Rattle.hs_core.proofs.selecting.keep_waiting.Given as goal

abbrev pub invariant-loop-deduced : goal.invariant-loop-deduced
invariant-loop-deduced l = record {
  keeps : (d : DeducedData) → Waits l.fn.waiting.found d → Waits l.waiting.found d;
  ready : AreReady l.core (Waits l.waiting.found);
  known : All (λ (d : DeducedData). IsThereOrWaits l.core.ids (log_of l.core) (Waits l.waiting.found) (entry_of l.core.ids d.row)) l.yielded;
  whole : l.yielded ++ l.deduced-iterator.rest.items ≡ l.fn.found.items;
}
