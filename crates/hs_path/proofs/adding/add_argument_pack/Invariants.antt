-- the pack has the evidences of those from `at` on that are chosen for the argument
use Rattle.std.proofs.Common.{◌≡◌, ℕ, ◌≤◌, length, drop}
use Rattle.hs_verdict.specs.Evidence.{Evidence}
use Rattle.hs_verdict.specs.Naming.{chosen_pack}
use Rattle.hs_path.specs.Stored.{Members, GrowsStore, ArePremises}
use Rattle.hs_path.proofs.adding.add_argument_pack.Given as goal

abbrev pub invariant-loop-at : goal.invariant-loop-at
invariant-loop-at l = record {
  grows : GrowsStore l.fn.store l.store;
  nodes : l.store.nodes.items ≡ l.fn.store.nodes.items;
  within : l.at ≤ length l.chosen;
  made : (bound : ℕ) (give : ℕ → Evidence) → ArePremises bound l.fn.store l.first give l.chosen
      → Members bound l.store (length l.fn.store.nodes.items) l.from (length l.store.members.items) (chosen_pack give l.argument (drop l.at l.chosen));
}
