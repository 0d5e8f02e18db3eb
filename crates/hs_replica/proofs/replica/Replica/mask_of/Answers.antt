use Rattle.std.proofs.Common.{sym, subst}
use Rattle.indexmap.specs.IndexSet.{spare}
use Rattle.hs_types.specs.Interned.{InternerData}
use Rattle.hs_replica.specs.Index.{list_at, IsKept}
use Rattle.hs_replica.proofs.replica.Replica.mask_of.Goals as goal

pub invariant_of-self : goal.invariant_of-self
invariant_of-self c =
    let a = c.self.inside in
    subst (λ (I : InternerData). IsKept I a.rows.keys (spare a.rows) a.reserved a.indexed a.by_type.items a.asked.items (list_at a.lists)) (sym c.mask_of.ensures.kept) c.self.invariant
