-- the packs of the parameters from `param` on stand one behind the other
use Rattle.std.proofs.Common.{◌≡◌, ◌≤◌, length, drop}
use Rattle.hs_table.specs.Entries.{entry_at}
use Rattle.hs_verdict.specs.Evidence.{Packs, own_evidence, packs_for}
use Rattle.hs_core.specs.Core.{log_of}
use Rattle.hs_path.specs.Stored.{Piled, GrowsStore, KnowsCurrent}
use Rattle.hs_path.proofs.adding.add.Given as goal

abbrev pub invariant-loop-param : goal.invariant-loop-param
invariant-loop-param l = record {
  grows : GrowsStore l.fn.store l.store;
  nodes : l.store.nodes.items ≡ l.fn.store.nodes.items;
  within : l.param ≤ length (entry_at (log_of l.core) l.place).env;
  made : (own : Packs) → KnowsCurrent (length (log_of l.core)) l.fn.store (length l.fn.store.nodes.items) l.node own
      → Piled (length (log_of l.core)) l.store (length l.fn.store.nodes.items) l.store.owns.items l.from (length l.store.owns.items)
      (packs_for (own_evidence (entry_at (log_of l.core) l.node.place).env own) l.param (drop l.param (entry_at (log_of l.core) l.place).env));
}
