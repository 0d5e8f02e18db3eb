use Rattle.std.proofs.Common.{◌≡◌, sym, ◌∙◌, ap, subst, ◌+◌, ◌<◌, ◌^◌, ◌++◌, ◌∷◌, [], List, length, Contains, arith}
use Rattle.std.proofs.lemmas.List.{length-map}
use Rattle.hs_scheme.proofs.Lists.{on_err}
use Rattle.indexmap.specs.IndexSet.{spare, insert_key}
use Rattle.hs_table.specs.Entries.{EntryData}
use Rattle.hs_types.specs.Interned.{InternerData, RowData, entry_of}
use Rattle.hs_types.specs.contracts.ids.RowPartialEq.TheImpl.{eq-value}
use Rattle.hs_replica.specs.Replica.{ReplicaData}
use Rattle.hs_replica.specs.Index.{log_of, list_at, IsKept}
use Rattle.hs_replica.proofs.KeptLemmas.{kept_grows, kept_room, kept_push, log_stays, insert_last, log_push}
use Rattle.hs_replica.proofs.replica.Replica.append.Goals as goal

pub invariant_of-self : goal.invariant_of-self
invariant_of-self c =
    let a = c.self.inside in
    kept_grows a.interner c.import.new.self c.in_err-own.ensures.grows a.rows.keys (spare a.rows) a.reserved a.indexed a.by_type.items a.asked.items (list_at a.lists) c.self.invariant

pub returns-in_err-own-clause-err : goal.returns-in_err-own-clause-err
returns-in_err-own-clause-err c =
    let a = c.self.inside in
    on_err c.from_residual.result _ (log_stays a.interner c.import.new.self c.in_err-own.ensures.grows a.rows.keys c.self.invariant.known ∙ ap (λ (r : ReplicaData). r.log) c.self.view_is)

pub invariant_of-self-in_err-reserve : goal.invariant_of-self-in_err-reserve
invariant_of-self-in_err-reserve c =
    let a = c.self.inside in
    let new = c.import.new.self in
    subst (λ (rows : List RowData). IsKept new rows (spare c.reserve.new.self) a.reserved a.indexed a.by_type.items a.asked.items (list_at a.lists)) (sym c.in_err-reserve.ensures.keys)
    (kept_room new a.rows.keys (spare a.rows) (spare c.reserve.new.self) a.reserved a.indexed a.by_type.items a.asked.items (list_at a.lists)
    (kept_grows a.interner new c.in_ok-own.ensures.grows a.rows.keys (spare a.rows) a.reserved a.indexed a.by_type.items a.asked.items (list_at a.lists) c.self.invariant)
    (omega (arith, c.in_err-reserve.ensures.room.0, c.self.invariant.fits)))

pub returns-in_err-reserve-clause-err : goal.returns-in_err-reserve-clause-err
returns-in_err-reserve-clause-err c =
    let a = c.self.inside in
    on_err c.from_residual-in_err-reserve.result _
    (ap (log_of c.import.new.self) c.in_err-reserve.ensures.keys ∙ (log_stays a.interner c.import.new.self c.in_ok-own.ensures.grows a.rows.keys c.self.invariant.known ∙ ap (λ (r : ReplicaData). r.log) c.self.view_is))

pub invariant_of-self-in_err-insert : goal.invariant_of-self-in_err-insert
invariant_of-self-in_err-insert c =
    let a = c.self.inside in
    let new = c.import.new.self in
    subst (λ (rows : List RowData). IsKept new rows (spare c.insert.new.self) a.reserved a.indexed a.by_type.items a.asked.items (list_at a.lists)) (sym (c.in_err-insert.ensures.err ∙ c.in_ok-reserve.ensures.keys))
    (kept_room new a.rows.keys (spare a.rows) (spare c.insert.new.self) a.reserved a.indexed a.by_type.items a.asked.items (list_at a.lists)
    (kept_grows a.interner new c.in_ok-own.ensures.grows a.rows.keys (spare a.rows) a.reserved a.indexed a.by_type.items a.asked.items (list_at a.lists) c.self.invariant)
    (omega (arith, c.in_err-insert.ensures.spare, c.in_ok-reserve.ensures.ok)))

pub returns-in_err-insert-clause-err : goal.returns-in_err-insert-clause-err
returns-in_err-insert-clause-err c =
    let a = c.self.inside in
    on_err c.from_residual-in_err-insert.result _
    (ap (log_of c.import.new.self) (c.in_err-insert.ensures.err ∙ c.in_ok-reserve.ensures.keys)
    ∙ (log_stays a.interner c.import.new.self c.in_ok-own.ensures.grows a.rows.keys c.self.invariant.known ∙ ap (λ (r : ReplicaData). r.log) c.self.view_is))

-- the entry isn't there yet, read in the grown interner
absent_there : (ids new from : InternerData) (rows : List RowData) (own row : RowData) → log_of new rows ≡ log_of ids rows → (was : ReplicaData) → log_of ids rows ≡ was.log → entry_of new own ≡ entry_of from row
    → (Contains was.log (entry_of from row) → ⊥) → Contains (log_of new rows) (entry_of new own) → ⊥
absent_there ids new from rows own row same was is e absent h =
    absent (subst (λ (log : List EntryData). Contains log (entry_of from row)) (same ∙ is) (subst (λ (x : EntryData). Contains (log_of new rows) x) e h))

pub invariant_of-self-2 : goal.invariant_of-self-2
invariant_of-self-2 c =
    let a = c.self.inside in
    let ids = a.interner in
    let new = c.import.new.self in
    let own = c.in_ok-own.own in
    let g = c.in_ok-own.ensures.grows in
    let log = ap (λ (r : ReplicaData). r.log) c.self.view_is in
    let absent = absent_there ids new c.args.from.now a.rows.keys own c.args.row (log_stays ids new g a.rows.keys c.self.invariant.known) c.args.self.now log c.in_ok-own.ensures.entry c.requires.absent in
    let short : length a.rows.keys + 1 < 2 ^ 32 = omega (arith, length-map a.rows.keys (entry_of ids), ap length log, c.requires.room) in
    let keys : c.insert.new.self.keys ≡ a.rows.keys ++ own ∷ [] =
    c.in_ok-insert.ensures.keys ∙ (ap (λ (rows : List RowData). insert_key eq-value.it rows own) c.in_ok-reserve.ensures.keys ∙ insert_last new a.rows.keys own absent) in
    subst (λ (rows : List RowData). IsKept new rows (spare c.insert.new.self) a.reserved a.indexed a.by_type.items a.asked.items (list_at a.lists)) (sym keys)
    (kept_push new a.rows.keys own (spare a.rows) (spare c.insert.new.self) a.reserved a.reserved a.indexed a.by_type.items a.asked.items (list_at a.lists)
    (kept_grows ids new g a.rows.keys (spare a.rows) a.reserved a.indexed a.by_type.items a.asked.items (list_at a.lists) c.self.invariant) c.in_ok-own.ensures.row absent short
    (omega (arith, c.in_ok-insert.ensures.spare, c.in_ok-reserve.ensures.ok)))

pub returns-clause-ok : goal.returns-clause-ok
returns-clause-ok c =
    let a = c.self.inside in
    let ids = a.interner in
    let new = c.import.new.self in
    let own = c.in_ok-own.own in
    let g = c.in_ok-own.ensures.grows in
    let log = ap (λ (r : ReplicaData). r.log) c.self.view_is in
    let same = log_stays ids new g a.rows.keys c.self.invariant.known in
    let absent = absent_there ids new c.args.from.now a.rows.keys own c.args.row same c.args.self.now log c.in_ok-own.ensures.entry c.requires.absent in
    let keys : c.insert.new.self.keys ≡ a.rows.keys ++ own ∷ [] =
    c.in_ok-insert.ensures.keys ∙ (ap (λ (rows : List RowData). insert_key eq-value.it rows own) c.in_ok-reserve.ensures.keys ∙ insert_last new a.rows.keys own absent) in
    ap (log_of new) keys ∙ (log_push new a.rows.keys own ∙ (λ i. (same ∙ log) i ++ c.in_ok-own.ensures.entry i ∷ []))
