use Rattle.std.proofs.Common.{sym, subst, Contains}
use Rattle.hs_types.specs.Interned.{entry_of}
use Rattle.hs_replica.specs.Replica.{ReplicaData}
use Rattle.hs_replica.proofs.ExtendLemmas.{next_absent}
use Rattle.hs_replica.proofs.replica.Replica.extend.Goals as goal

pub add-requires-clause-absent : goal.add-requires-clause-absent
add-requires-clause-absent c =
    let r = c.args.self.now in
    let row = c.row-item.result in
    subst (λ (s : ReplicaData). Contains s.log (entry_of s.ids row) → ⊥) (sym c.loop-row.invariant)
    (next_absent r.log (entry_of r.ids) c.args.rows.now c.loop-row.row-index row c.requires.distinct c.loop-row-test.true c.row-item.is)
