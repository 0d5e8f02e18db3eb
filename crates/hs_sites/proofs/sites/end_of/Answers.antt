use Rattle.std.proofs.Common.{leb, rules}
use Rattle.std.proofs.lemmas.List.Sorted.{IsPartitionPoint-from_clause, IsPartitionedBy-leb}
use Rattle.hs_sites.specs.declared.sites.Site.{Site}
use Rattle.hs_sites.proofs.Ordered.{nonterminals_rise, start_behind}
use Rattle.hs_sites.proofs.sites.end_of.Goals as goal

pub returns : goal.returns
returns c =
    let sites = c.args.sites.now in
    let parted = IsPartitionedBy-leb (λ (s : Site). s.nonterminal) sites c.args.nonterminal (nonterminals_rise sites c.requires) in
    start_behind sites c.args.nonterminal c.partition_point.result c.partition_point.ensures.bound
    (IsPartitionPoint-from_clause (λ (s : Site). leb s.nonterminal c.args.nonterminal) _ _ c.partition_point.ensures.partitioned parted (λ a r q k. search rules))
