use Rattle.indexmap.specs.IndexSet.{spare}
use Rattle.hs_replica.specs.Index.{list_at}
use Rattle.hs_replica.proofs.KeptLemmas.{kept_grows, keeps_log}
use Rattle.hs_replica.proofs.replica.Replica.union_with_mask.Goals as goal

pub invariant_of-self : goal.invariant_of-self
invariant_of-self c =
    let a = c.self.inside in
    kept_grows a.interner c.union_with_mask.new.self c.union_with_mask.ensures.grows a.rows.keys (spare a.rows) a.reserved a.indexed a.by_type.items a.asked.items (list_at a.lists) c.self.invariant

pub returns-clause-kept : goal.returns-clause-kept
returns-clause-kept c =
    let a = c.self.inside in
    keeps_log a.interner c.union_with_mask.new.self c.union_with_mask.ensures.grows a.rows.keys (spare a.rows) a.reserved a.indexed a.by_type.items a.asked.items (list_at a.lists) c.self.invariant c.args.self.now c.self.view_is
