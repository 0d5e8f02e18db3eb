use Rattle.std.proofs.Common.{sym, subst, ℕ, ◌<◌, List, length, Contains, ◌↔◌}
use Rattle.indexmap.specs.IndexSet.{spare}
use Rattle.hs_types.specs.Interned.{InternerData, RowData, type_of_id}
use Rattle.hs_replica.specs.declared.key.Key.TheVariants.{Asking}
use Rattle.hs_replica.specs.Replica.{ReplicaData}
use Rattle.hs_replica.specs.Places.{asks, ArePlaces}
use Rattle.hs_replica.specs.Index.{log_of, list_at, reach, RisesTo, IsIndex, IsAskedIndex, KeepsAsked, HasAsked}
use Rattle.hs_replica.proofs.KeptLemmas.{kept_index, rises_to, places_of}
use Rattle.hs_replica.proofs.replica.Replica.asking.Goals as goal

pub add_asks-requires-clause-index : goal.add_asks-requires-clause-index
add_asks-requires-clause-index c =
    let a = c.self.inside in
    subst (λ (I : InternerData). IsAskedIndex I (log_of I c.as_slice.result.now) a.indexed a.asked.items (list_at a.lists)) (sym c.interner.ensures)
    (subst (λ (rows : List RowData). IsAskedIndex a.interner (log_of a.interner rows) a.indexed a.asked.items (list_at a.lists)) (sym c.as_slice.ensures.keys) (a.by_type.items, c.self.invariant.index))

pub invariant_of-self : goal.invariant_of-self
invariant_of-self c =
    let a = c.self.inside in
    kept_index a.interner a.rows.keys (spare a.rows) a.reserved a.indexed a.indexed a.by_type.items a.asked.items a.by_type.items c.add_asks.new.asked.items (list_at a.lists) (list_at c.add_asks.new.lists) c.self.invariant
    c.self.invariant.within
    (subst (λ (rows : List RowData). KeepsAsked a.interner (log_of a.interner rows) a.indexed a.asked.items c.add_asks.new.asked.items (list_at a.lists) (list_at c.add_asks.new.lists)) c.as_slice.ensures.keys
    (subst (λ (I : InternerData). KeepsAsked I (log_of I c.as_slice.result.now) a.indexed a.asked.items c.add_asks.new.asked.items (list_at a.lists) (list_at c.add_asks.new.lists)) c.interner.ensures c.add_asks.ensures.index) a.by_type.items c.self.invariant.index)

pub below-requires : goal.below-requires
below-requires c =
    let a = c.self.inside in
    let listed = (subst (λ (I : InternerData). KeepsAsked I (log_of I c.as_slice.result.now) a.indexed a.asked.items c.add_asks.new.asked.items (list_at a.lists) (list_at c.add_asks.new.lists)) c.interner.ensures c.in_ok-add_asks.ensures.index) a.by_type.items
    (subst (λ (rows : List RowData). IsIndex a.interner (log_of a.interner rows) (reach a.by_type.items a.asked.items a.indexed) (list_at a.lists)) (sym c.as_slice.ensures.keys) c.self.invariant.index) in
    let key = Asking c.args.point c.args.param c.args.ty in
    subst (λ (xs : List ℕ). RisesTo a.indexed xs) (sym c.list_of-list.ensures)
    (rises_to _ a.indexed (list_at c.add_asks.new.lists key) (listed.within (asks c.args.point c.args.param (type_of_id a.interner c.args.ty)) 0) (listed.rises key))

pub invariant_of-self-in_err-places : goal.invariant_of-self-in_err-places
invariant_of-self-in_err-places c =
    let a = c.self.inside in
    kept_index a.interner a.rows.keys (spare a.rows) a.reserved a.indexed a.indexed a.by_type.items a.asked.items a.by_type.items c.add_asks.new.asked.items (list_at a.lists) (list_at c.add_asks.new.lists) c.self.invariant
    c.self.invariant.within
    (subst (λ (rows : List RowData). KeepsAsked a.interner (log_of a.interner rows) a.indexed a.asked.items c.add_asks.new.asked.items (list_at a.lists) (list_at c.add_asks.new.lists)) c.as_slice.ensures.keys
    (subst (λ (I : InternerData). KeepsAsked I (log_of I c.as_slice.result.now) a.indexed a.asked.items c.add_asks.new.asked.items (list_at a.lists) (list_at c.add_asks.new.lists)) c.interner.ensures c.add_asks.ensures.index) a.by_type.items c.self.invariant.index)

pub invariant_of-self-2 : goal.invariant_of-self-2
invariant_of-self-2 c =
    let a = c.self.inside in
    kept_index a.interner a.rows.keys (spare a.rows) a.reserved a.indexed a.indexed a.by_type.items a.asked.items a.by_type.items c.add_asks.new.asked.items (list_at a.lists) (list_at c.add_asks.new.lists) c.self.invariant
    c.self.invariant.within
    (subst (λ (rows : List RowData). KeepsAsked a.interner (log_of a.interner rows) a.indexed a.asked.items c.add_asks.new.asked.items (list_at a.lists) (list_at c.add_asks.new.lists)) c.as_slice.ensures.keys
    (subst (λ (I : InternerData). KeepsAsked I (log_of I c.as_slice.result.now) a.indexed a.asked.items c.add_asks.new.asked.items (list_at a.lists) (list_at c.add_asks.new.lists)) c.interner.ensures c.add_asks.ensures.index) a.by_type.items c.self.invariant.index)

pub returns-clause-exact : goal.returns-clause-exact
returns-clause-exact c =
    let a = c.self.inside in
    let listed = (subst (λ (I : InternerData). KeepsAsked I (log_of I c.as_slice.result.now) a.indexed a.asked.items c.add_asks.new.asked.items (list_at a.lists) (list_at c.add_asks.new.lists)) c.interner.ensures c.in_ok-add_asks.ensures.index) a.by_type.items
    (subst (λ (rows : List RowData). IsIndex a.interner (log_of a.interner rows) (reach a.by_type.items a.asked.items a.indexed) (list_at a.lists)) (sym c.as_slice.ensures.keys) c.self.invariant.index) in
    let list = list_at c.add_asks.new.lists in
    let key = Asking c.args.point c.args.param c.args.ty in
    let asked = asks c.args.point c.args.param (type_of_id a.interner c.args.ty) in
    let exact = subst (λ (xs : List ℕ). (i : ℕ) → Contains c.below.result.now i ↔ ((i < a.indexed) × Contains xs i)) c.list_of-list.ensures c.below.ensures.exact in
    let are = places_of a.interner c.know_numbers.ensures (log_of a.interner c.as_slice.result.now) (reach a.by_type.items c.add_asks.new.asked.items a.indexed) a.indexed list listed key
    (subst (λ (r : ReplicaData). c.args.ty < length r.ids.types) (sym c.self.view_is) c.requires)
    (λ i lt. (subst (λ (I : InternerData). HasAsked I (log_of I c.as_slice.result.now) a.indexed c.args.point (list_at c.add_asks.new.lists)) c.interner.ensures c.in_ok-add_asks.ensures.ok) i c.args.param (type_of_id a.interner c.args.ty) lt) c.below.result.now c.below.ensures.ascending exact in
    subst (λ (r : ReplicaData). ArePlaces r.log r.indexed (asks c.args.point c.args.param (type_of_id r.ids c.args.ty)) c.in_ok-places.places.items) c.self.view_is
    (subst (λ (rows : List RowData). ArePlaces (log_of a.interner rows) a.indexed asked c.in_ok-places.places.items) c.as_slice.ensures.keys
    (subst (λ (xs : List ℕ). ArePlaces (log_of a.interner c.as_slice.result.now) a.indexed asked xs) (sym c.in_ok-places.ensures.ok) are))
