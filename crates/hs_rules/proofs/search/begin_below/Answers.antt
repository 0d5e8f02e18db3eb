use Rattle.std.proofs.Common.{ltb, rules}
use Rattle.std.proofs.lemmas.List.Sorted.{IsPartitionPoint-from_clause, IsPartitionedBy-ltb}
use Rattle.hs_replica.proofs.FromLemmas.{rises_by}
use Rattle.hs_rules.proofs.FillLemmas.{begin_is, begin_ascends}
use Rattle.hs_rules.proofs.search.begin_below.Goals as goal

pub returns-clause-places : goal.returns-clause-places
returns-clause-places c =
    let xs = c.args.places.now in
    let parted = IsPartitionedBy-ltb (λ y. y) xs c.args.limit (rises_by xs c.requires) in
    begin_is xs c.args.limit c.partition_point-count.result
    (IsPartitionPoint-from_clause (λ y. ltb y c.args.limit) _ _ c.partition_point-count.ensures.partitioned parted (λ a r q k. search rules))

pub returns-clause-ascending : goal.returns-clause-ascending
returns-clause-ascending c = begin_ascends c.partition_point-count.result c.args.places.now c.requires
