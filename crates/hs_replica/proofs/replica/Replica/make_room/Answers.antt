use Rattle.std.proofs.Common.{sym, subst, ◌≤◌, List, arith}
use Rattle.indexmap.specs.IndexSet.{spare}
use Rattle.hs_types.specs.Interned.{RowData}
use Rattle.hs_replica.specs.Index.{list_at, IsKept}
use Rattle.hs_replica.proofs.KeptLemmas.{kept_reserved}
use Rattle.hs_replica.proofs.replica.Replica.make_room.Goals as goal

pub invariant_of-self : goal.invariant_of-self
invariant_of-self c =
    let a = c.self.inside in
    subst (λ (rows : List RowData). IsKept a.interner rows (spare c.reserve.new.self) a.reserved a.indexed a.by_type.items a.asked.items (list_at a.lists)) (sym c.in_err-reserve.ensures.keys)
    (kept_reserved a.interner a.rows.keys (spare a.rows) (spare c.reserve.new.self) a.reserved a.reserved a.indexed a.by_type.items a.asked.items (list_at a.lists) c.self.invariant (omega (arith, c.in_err-reserve.ensures.room.0, c.self.invariant.fits)))

pub invariant_of-self-2 : goal.invariant_of-self-2
invariant_of-self-2 c =
    let a = c.self.inside in
    let fits : c.max-self-inside.result ≤ spare c.reserve.new.self = omega (arith, c.max-self-inside.ensures, c.in_ok-reserve.ensures.ok, c.in_ok-reserve.ensures.room.0, c.self.invariant.fits) in
    subst (λ (rows : List RowData). IsKept a.interner rows (spare c.reserve.new.self) c.max-self-inside.result a.indexed a.by_type.items a.asked.items (list_at a.lists)) (sym c.in_ok-reserve.ensures.keys)
    (kept_reserved a.interner a.rows.keys (spare a.rows) (spare c.reserve.new.self) a.reserved c.max-self-inside.result a.indexed a.by_type.items a.asked.items (list_at a.lists) c.self.invariant fits)
