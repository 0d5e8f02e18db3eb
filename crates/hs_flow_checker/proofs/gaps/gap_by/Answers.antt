use Rattle.hs_flow_checker.specs.PassedOn.{base_of}
use Rattle.hs_flow_checker.proofs.GapLemmas.{after_none, after_flow, after_no_head, after_head}
use Rattle.hs_flow_checker.proofs.gaps.gap_by.Goals as goal

pub returns-in-None : goal.returns-in-None
returns-in-None c = λ h there. after_none c.args.problem.now c.args.point c.args.args.now (base_of h) c.args.kind c.in-Flow.is (c.in-None.ensures h there)

pub returns-in-Some : goal.returns-in-Some
returns-in-Some c =
    let x = c.in-Some.ensures in
    (x.0, (x.1.0, after_flow c.args.problem.now c.args.point c.args.args.now (base_of x.0) c.args.kind c.in-Some.pair c.in-Flow.is x.1.1))

pub returns-in-None-head_gap : goal.returns-in-None-head_gap
returns-in-None-head_gap c = λ h there. after_no_head c.args.problem.now c.args.point c.args.args.now (base_of h) c.args.kind c.in-Heads.is (c.in-None-head_gap.ensures h there)

pub returns-in-Some-head_gap : goal.returns-in-Some-head_gap
returns-in-Some-head_gap c =
    let x = c.in-Some-head_gap.ensures in
    (x.0, (x.1.0, after_head c.args.problem.now c.args.point c.args.args.now (base_of x.0) c.args.kind c.in-Some-head_gap.pair c.in-Heads.is x.1.1))
