use Rattle.std.proofs.Common.{ltb, arith, rules}
use Rattle.std.proofs.lemmas.List.Sorted.{IsPartitionPoint-from_clause, IsPartitionedBy-ltb}
use Rattle.hs_replica.proofs.FromLemmas.{rises_by, none_from, there_from, first_of}
use Rattle.hs_replica.proofs.reaching.first_from.Goals as goal

pub returns-then-begin-list-clause-none : goal.returns-then-begin-list-clause-none
returns-then-begin-list-clause-none c =
    let xs = c.args.list.now in
    let parted = IsPartitionedBy-ltb (λ y. y) xs c.args.from (rises_by xs c.requires) in
    let point = IsPartitionPoint-from_clause (λ y. ltb y c.args.from) _ _ c.partition_point-begin.ensures.partitioned parted (λ a r q k. search rules) in
    none_from xs c.args.from c.partition_point-begin.result point c.if-begin-list.true

pub returns-clause-there : goal.returns-clause-there
returns-clause-there c =
    let xs = c.args.list.now in
    let parted = IsPartitionedBy-ltb (λ y. y) xs c.args.from (rises_by xs c.requires) in
    let point = IsPartitionPoint-from_clause (λ y. ltb y c.args.from) _ _ c.partition_point-begin.ensures.partitioned parted (λ a r q k. search rules) in
    there_from xs c.args.from c.partition_point-begin.result point (omega (arith, c.if-begin-list.false))

pub returns-clause-first : goal.returns-clause-first
returns-clause-first c =
    let xs = c.args.list.now in
    let parted = IsPartitionedBy-ltb (λ y. y) xs c.args.from (rises_by xs c.requires) in
    let point = IsPartitionPoint-from_clause (λ y. ltb y c.args.from) _ _ c.partition_point-begin.ensures.partitioned parted (λ a r q k. search rules) in
    first_of xs c.args.from c.partition_point-begin.result point (omega (arith, c.if-begin-list.false)) c.requires
