use Rattle.std.proofs.Common.{◌≡◌, refl, sym, subst, ℕ, ◌≤◌, List, get_or}
use Rattle.indexmap.specs.IndexSet.{spare}
use Rattle.hs_types.specs.Interned.{InternerData, RowData}
use Rattle.hs_replica.specs.Replica.{ReplicaData, typed_to}
use Rattle.hs_replica.specs.Index.{log_of, list_at, IsTypedIndex, KeepsTyped}
use Rattle.hs_replica.proofs.KeptLemmas.{kept_index, view_of}
use Rattle.hs_replica.proofs.replica.Replica.list_types.Goals as goal

pub add_types-requires-clause-index : goal.add_types-requires-clause-index
add_types-requires-clause-index c =
    let a = c.self.inside in
    subst (λ (I : InternerData). IsTypedIndex I (log_of I c.as_slice-2.result.now) a.indexed a.by_type.items (list_at a.lists)) (sym c.interner.ensures)
    (subst (λ (rows : List RowData). IsTypedIndex a.interner (log_of a.interner rows) a.indexed a.by_type.items (list_at a.lists)) (sym c.as_slice-2.ensures.keys) (a.asked.items, c.self.invariant.index))

pub invariant_of-self : goal.invariant_of-self
invariant_of-self c =
    let a = c.self.inside in
    kept_index a.interner a.rows.keys (spare a.rows) a.reserved a.indexed a.indexed a.by_type.items a.asked.items c.add_types.new.by_type.items a.asked.items (list_at a.lists) (list_at c.add_types.new.lists) c.self.invariant
    c.self.invariant.within
    (subst (λ (rows : List RowData). KeepsTyped a.interner (log_of a.interner rows) a.indexed a.by_type.items c.add_types.new.by_type.items (list_at a.lists) (list_at c.add_types.new.lists)) c.as_slice-2.ensures.keys
    (subst (λ (I : InternerData). KeepsTyped I (log_of I c.as_slice-2.result.now) a.indexed a.by_type.items c.add_types.new.by_type.items (list_at a.lists) (list_at c.add_types.new.lists)) c.interner.ensures c.add_types.ensures.index) a.asked.items c.self.invariant.index)

pub returns-clause-kept : goal.returns-clause-kept
returns-clause-kept c =
    let a = c.self.inside in
    let new = c.add_types.new.by_type.items in
    record {
      same = subst (λ (r : ReplicaData). view_of a.interner a.rows.keys a.reserved a.indexed new ≡ record r { by_type = new }) c.self.view_is refl;
      more = subst (λ (r : ReplicaData). (point : ℕ) → typed_to r point ≤ get_or new point 0) c.self.view_is c.add_types.ensures.more;
    }
