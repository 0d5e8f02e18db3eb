-- the packs of the arguments from `argument` on are on the stack
use Rattle.std.proofs.Common.{◌≡◌, ◌+◌, ◌≤◌, length, drop}
use Rattle.hs_verdict.specs.Evidence.{Packs, stacked}
use Rattle.hs_verdict.specs.Naming.{argument_packs}
use Rattle.hs_core.specs.Core.{log_of}
use Rattle.hs_path.specs.Stored.{Piled, GrowsStore, KnowsCurrent, premise, ArePremises}
use Rattle.hs_path.proofs.adding.put_arguments.Given as goal

abbrev pub invariant-loop-argument : goal.invariant-loop-argument
invariant-loop-argument l = record {
  grows : GrowsStore l.fn.store l.store;
  count : l.first + length l.chosen ≡ length l.store.nodes.items;
  within : l.argument ≤ length l.arguments;
  premises : (own : Packs) → KnowsCurrent (length (log_of l.core)) l.fn.store (length l.fn.store.nodes.items) l.fn.node own
      → ArePremises (length (log_of l.core)) l.store l.first (premise (log_of l.core) l.fn.node.place own) l.chosen;
  made : (own packs : Packs) → KnowsCurrent (length (log_of l.core)) l.fn.store (length l.fn.store.nodes.items) l.fn.node own
      → Piled (length (log_of l.core)) l.fn.store (length l.fn.store.nodes.items) l.fn.stack.items 0 (length l.fn.stack.items) packs
      → Piled (length (log_of l.core)) l.store (length l.store.nodes.items) l.stack.items 0 (length l.stack.items)
      (stacked (argument_packs (premise (log_of l.core) l.fn.node.place own) l.argument (drop l.argument l.arguments) l.chosen) packs);
}
