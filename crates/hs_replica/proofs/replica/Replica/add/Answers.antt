use Rattle.std.proofs.Common.{◌≡◌, sym, ◌∙◌, ap, subst, ◌+◌, ◌-◌, ◌<◌, ◌^◌, ◌++◌, ◌∷◌, [], List, length, Contains, arith}
use Rattle.std.proofs.lemmas.List.{length-map}
use Rattle.indexmap.specs.IndexSet.{spare, insert_key}
use Rattle.hs_types.specs.Interned.{RowData, IsRow, entry_of}
use Rattle.hs_types.specs.contracts.ids.RowPartialEq.TheImpl.{eq-value}
use Rattle.hs_replica.specs.Replica.{ReplicaData}
use Rattle.hs_replica.specs.Index.{log_of, list_at, IsKept}
use Rattle.hs_replica.proofs.KeptLemmas.{insert_last, kept_push, log_push, view_of, at_ok}
use Rattle.hs_replica.proofs.replica.Replica.add.Goals as goal

pub invariant_of-self : goal.invariant_of-self
invariant_of-self c =
    let a = c.self.inside in
    let ids = a.interner in
    let row = c.args.row in
    let absent = subst (λ (r : ReplicaData). Contains r.log (entry_of r.ids row) → ⊥) (sym c.self.view_is) c.requires.absent in
    let short : length a.rows.keys + 1 < 2 ^ 32 = omega (arith, length-map a.rows.keys (entry_of ids), ap (λ (r : ReplicaData). length r.log) c.self.view_is, c.requires.room) in
    let keys : c.insert.new.self.keys ≡ a.rows.keys ++ row ∷ [] = at_ok c.insert.result c.unwrap-added.result (λ b. c.insert.new.self.keys ≡ insert_key eq-value.it a.rows.keys row) c.unwrap-added.ensures c.insert.ensures.keys ∙ insert_last ids a.rows.keys row absent in
    subst (λ (rows : List RowData). IsKept ids rows (spare c.insert.new.self) (a.reserved - 1) a.indexed a.by_type.items a.asked.items (list_at a.lists)) (sym keys)
    (kept_push ids a.rows.keys row (spare a.rows) (spare c.insert.new.self) a.reserved (a.reserved - 1) a.indexed a.by_type.items a.asked.items (list_at a.lists) c.self.invariant
    (subst (λ (r : ReplicaData). IsRow r.ids row) (sym c.self.view_is) c.requires.row) absent short (omega (arith, c.insert.ensures.spare, c.self.invariant.fits)))

pub returns : goal.returns
returns c =
    let a = c.self.inside in
    let ids = a.interner in
    let row = c.args.row in
    let absent = subst (λ (r : ReplicaData). Contains r.log (entry_of r.ids row) → ⊥) (sym c.self.view_is) c.requires.absent in
    let keys : c.insert.new.self.keys ≡ a.rows.keys ++ row ∷ [] = at_ok c.insert.result c.unwrap-added.result (λ b. c.insert.new.self.keys ≡ insert_key eq-value.it a.rows.keys row) c.unwrap-added.ensures c.insert.ensures.keys ∙ insert_last ids a.rows.keys row absent in
    let log : log_of ids c.insert.new.self.keys ≡ log_of ids a.rows.keys ++ entry_of ids row ∷ [] = ap (log_of ids) keys ∙ log_push ids a.rows.keys row in
    subst (λ (r : ReplicaData). view_of ids c.insert.new.self.keys (a.reserved - 1) a.indexed a.by_type.items ≡ record { ids = r.ids; log = r.log ++ entry_of r.ids row ∷ []; spare = r.spare - 1; indexed = r.indexed; by_type = r.by_type }) c.self.view_is
    (λ i. record { ids = ids; log = log i; spare = a.reserved - 1; indexed = a.indexed; by_type = a.by_type.items })
