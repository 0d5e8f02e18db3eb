use Rattle.hs_flow_checker.proofs.GapLemmas.{first_lacking}
use Rattle.hs_flow_checker.proofs.gaps.first_gap.Goals as goal

pub returns : goal.returns
returns c = first_lacking c.args.problem.now c.gap.result c.gap-2.result c.in_default.not-Some c.gap.ensures c.gap-2.ensures
