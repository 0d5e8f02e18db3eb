-- what follows at the dependents so far is known
use Rattle.std.proofs.Common.{◌≡◌, ℕ, ◌<◌, get_or}
use Rattle.hs_types.specs.Interned.{Grows}
use Rattle.hs_rules.specs.Conclusions.{DeducedData}
use Rattle.hs_history.specs.Following.{HasAt}
use Rattle.hs_core.specs.Core.{log_of}
use Rattle.hs_core.specs.Waiting.{Waits, IsThereOrWaits}
use Rattle.hs_core.specs.Selecting.{AreReady}
use Rattle.hs_core.proofs.selecting.form_place.Given as goal

abbrev pub invariant-loop-dependent : goal.invariant-loop-dependent
invariant-loop-dependent l = record {
  kept : l.core ≡ record { base = l.fn.core.base; ids = l.core.ids; story = l.fn.core.story; spare = l.fn.core.spare };
  grows : Grows l.fn.core.ids l.core.ids;
  keeps : (d : DeducedData) → Waits l.fn.waiting.found d → Waits l.waiting.found d;
  ready : AreReady l.core (Waits l.waiting.found);
  all : (k : ℕ) → k < l.dependent-index → HasAt l.fn.core.base.problem (log_of l.fn.core) l.place (get_or l.dependent-items k 0) (IsThereOrWaits l.core.ids (log_of l.fn.core) (Waits l.waiting.found));
}
