-- the pack has the evidences for the types from `at` on
use Rattle.std.proofs.Common.{◌≡◌, ℕ, ◌≤◌, length, drop, map}
use Rattle.hs_table.specs.Entries.{entry_at}
use Rattle.hs_types.specs.Interned.{type_of_id}
use Rattle.hs_verdict.specs.Evidence.{Packs, own_evidence, pack_for}
use Rattle.hs_core.specs.Core.{log_of}
use Rattle.hs_path.specs.Stored.{Members, GrowsStore, KnowsCurrent}
use Rattle.hs_path.proofs.adding.add_own_pack.Given as goal

abbrev pub invariant-loop-at : goal.invariant-loop-at
invariant-loop-at l = record {
  grows : GrowsStore l.fn.store l.store;
  owns : l.store.owns.items ≡ l.fn.store.owns.items;
  nodes : l.store.nodes.items ≡ l.fn.store.nodes.items;
  within : l.at ≤ length l.types;
  made : (below : ℕ) (own : Packs) → KnowsCurrent (length (log_of l.core)) l.fn.store below l.node own → Members (length (log_of l.core)) l.store below l.from (length l.store.members.items)
      (pack_for (own_evidence (entry_at (log_of l.core) l.node.place).env own l.param) (map (type_of_id l.core.ids) (drop l.at l.types)));
}
