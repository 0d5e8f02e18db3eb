use Rattle.std.proofs.Common.{ltb, rules}
use Rattle.std.proofs.lemmas.List.Sorted.{IsPartitionPoint-from_clause, IsPartitionedBy-ltb}
use Rattle.hs_numbered.specs.Certificates.{VoidRowData}
use Rattle.hs_void.proofs.Ordered.{start_below}
use Rattle.hs_void.proofs.basis.start_of.Goals as goal

pub returns : goal.returns
returns c =
    let rows = c.args.rows.now in
    let parted = IsPartitionedBy-ltb (λ (v : VoidRowData). v.rule) rows c.args.rule c.requires in
    start_below rows c.args.rule c.partition_point.result c.partition_point.ensures.bound
    (IsPartitionPoint-from_clause (λ (v : VoidRowData). ltb v.rule c.args.rule) _ _ c.partition_point.ensures.partitioned parted (λ a r q k. search rules))
