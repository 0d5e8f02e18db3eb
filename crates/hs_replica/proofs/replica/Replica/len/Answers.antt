use Rattle.indexmap.specs.IndexSet.{spare}
use Rattle.hs_replica.specs.Index.{list_at}
use Rattle.hs_replica.proofs.KeptLemmas.{is_replica}
use Rattle.hs_replica.proofs.replica.Replica.len.Goals as goal

pub returns-clause-replica : goal.returns-clause-replica
returns-clause-replica c =
    let a = c.self.inside in
    is_replica a.interner a.rows.keys (spare a.rows) a.reserved a.indexed a.by_type.items a.asked.items (list_at a.lists) c.self.invariant c.args.self.now c.self.view_is
