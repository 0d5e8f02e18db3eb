use Rattle.std.proofs.Common.{subst, ◌≤◌, List, length}
use Rattle.indexmap.specs.IndexSet.{spare}
use Rattle.hs_types.specs.Interned.{RowData}
use Rattle.hs_replica.specs.Index.{list_at, KeepsIndex}
use Rattle.hs_replica.proofs.KeptLemmas.{kept_index}
use Rattle.hs_replica.proofs.replica.Replica.index.Goals as goal

pub invariant_of-self : goal.invariant_of-self
invariant_of-self c =
    let a = c.self.inside in
    kept_index a.interner a.rows.keys (spare a.rows) a.reserved a.indexed c.add_places.new.indexed a.by_type.items a.asked.items a.by_type.items a.asked.items (list_at a.lists) (list_at c.add_places.new.lists) c.self.invariant
    (subst (λ (rows : List RowData). c.add_places.new.indexed ≤ length rows) c.as_slice.ensures.keys c.add_places.ensures.within)
    (subst (λ (rows : List RowData). KeepsIndex rows a.indexed c.add_places.new.indexed (list_at a.lists) (list_at c.add_places.new.lists)) c.as_slice.ensures.keys c.add_places.ensures.index a.interner
    a.by_type.items a.asked.items c.self.invariant.index)
