use Rattle.indexmap.specs.IndexSet.{spare}
use Rattle.hs_replica.specs.Index.{list_at}
use Rattle.hs_replica.proofs.KeptLemmas.{kept_grows, keeps_log}
use Rattle.hs_replica.proofs.replica.Replica.import_with.Goals as goal

pub invariant_of-self : goal.invariant_of-self
invariant_of-self c =
    let a = c.self.inside in
    kept_grows a.interner c.import_with.new.self c.import_with.ensures.grows a.rows.keys (spare a.rows) a.reserved a.indexed a.by_type.items a.asked.items (list_at a.lists) c.self.invariant

pub returns-clause-kept : goal.returns-clause-kept
returns-clause-kept c =
    let a = c.self.inside in
    keeps_log a.interner c.import_with.new.self c.import_with.ensures.grows a.rows.keys (spare a.rows) a.reserved a.indexed a.by_type.items a.asked.items (list_at a.lists) c.self.invariant c.args.self.now c.self.view_is
