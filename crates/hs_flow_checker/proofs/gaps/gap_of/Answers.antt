use Rattle.hs_scheme.specs.declared.flow.HeadPair.{HeadPair}
use Rattle.hs_flow_checker.proofs.GapLemmas.{gap_at_rule, gap_by_one}
use Rattle.hs_flow_checker.proofs.gaps.gap_of.Goals as goal

pub returns-in-Nt : goal.returns-in-Nt
returns-in-Nt c =
    let own : HeadPair = record { point = c.args.point; rule = c.in-Nt.nonterminal; given = 0 } in
    gap_at_rule c.args.problem.now c.args.point c.args.rule c.args.head c.args.args.now c.args.kind c.in-Nt.nonterminal c.gap_by.result c.in-Nt.is
    (gap_by_one c.args.problem.now c.args.kind c.args.point c.args.args.now own c.gap_by.result c.gap_by.ensures)
