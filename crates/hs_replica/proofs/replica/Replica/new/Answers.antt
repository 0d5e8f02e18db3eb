use Rattle.std.proofs.Common.{sym, subst, ℕ, List, []}
use Rattle.indexmap.specs.IndexSet.{spare}
use Rattle.hs_types.specs.Interned.{RowData}
use Rattle.hs_replica.specs.Index.{list_at, IsKept}
use Rattle.hs_replica.proofs.GainLemmas.{nothing_listed}
use Rattle.hs_replica.proofs.KeptLemmas.{kept_none}
use Rattle.hs_replica.proofs.replica.Replica.new.Goals as goal

pub invariant_of-result : goal.invariant_of-result
invariant_of-result c =
    let listed = list_at c.new-3.result in
    subst (λ (by_type : List ℕ). IsKept c.new.result c.new-2.result.keys (spare c.new-2.result) 0 0 by_type c.new-5.result.items listed) (sym c.new-4.ensures.items)
    (subst (λ (asked : List ℕ). IsKept c.new.result c.new-2.result.keys (spare c.new-2.result) 0 0 [] asked listed) (sym c.new-5.ensures.items)
    (subst (λ (rows : List RowData). IsKept c.new.result rows (spare c.new-2.result) 0 0 [] [] listed) (sym c.new-2.ensures.empty)
    (kept_none c.new.result (spare c.new-2.result) listed (nothing_listed c.new-3.result c.new-3.ensures.at c.new-3.ensures.keyed))))
