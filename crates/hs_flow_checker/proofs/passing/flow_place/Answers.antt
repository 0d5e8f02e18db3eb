use Rattle.std.proofs.Common.{sym, subst, ◌+◌, Contains}
use Rattle.hs_scheme.specs.declared.flow.FlowPair.{FlowPair}
use Rattle.hs_scheme.specs.Problem.{ProblemData}
use Rattle.hs_flow_checker.proofs.passing.flow_place.Goals as goal

pub returns-then-is_passed : goal.returns-then-is_passed
returns-then-is_passed c = λ f passes.
    let x : FlowPair = record { rule = c.args.base.rule; param = c.args.base.given + c.args.number; point = c.args.arg } in
    let held = subst (λ (q : ProblemData). Contains q.flow.pairs x) c.problem.view_is (c.is_passed.ensures c.if-is_passed.true) in
    subst (λ (y : FlowPair). Contains c.args.problem.now.flow.pairs y) (sym passes.0) held
