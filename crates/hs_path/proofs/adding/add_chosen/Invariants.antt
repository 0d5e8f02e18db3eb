-- those before the index have their evidences
use Rattle.std.proofs.Common.{◌≡◌, ℕ, ◌+◌, ◌<◌, length, slice_get, Some}
use Rattle.hs_verdict.specs.Evidence.{Packs}
use Rattle.hs_core.specs.Core.{log_of}
use Rattle.hs_path.specs.Stored.{Stands, GrowsStore, KnowsCurrent, premise}
use Rattle.hs_path.proofs.adding.add_chosen.Given as goal

abbrev pub invariant-loop-choice : goal.invariant-loop-choice
invariant-loop-choice l = record {
  grows : GrowsStore l.fn.store l.store;
  count : l.first + l.choice-index ≡ length l.store.nodes.items;
  made : (own : Packs) → KnowsCurrent (length (log_of l.core)) l.fn.store (length l.fn.store.nodes.items) l.node own
      → (k argument place : ℕ) → k < l.choice-index → slice_get l.chosen k ≡ Some (argument, place) → Stands (length (log_of l.core)) l.store (l.first + k) (premise (log_of l.core) l.node.place own place);
}
