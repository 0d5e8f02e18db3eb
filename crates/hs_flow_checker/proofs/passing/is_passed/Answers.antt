use Rattle.std.proofs.Common.{◌≡◌, ◌∙◌, ap, subst, ℕ, ◌+◌, List, Contains}
use Rattle.hs_scheme.specs.declared.flow.FlowPair.{FlowPair}
use Rattle.hs_flow_checker.proofs.GapLemmas.{row_has}
use Rattle.hs_flow_checker.proofs.passing.is_passed.Goals as goal

pub returns-in-Some : goal.returns-in-Some
returns-in-Some c = λ h.
    let base = c.args.base in
    let param : c.in-Some.param ≡ base.given + c.args.number = c.in-Some.ensures.1 ∙ ap (λ (n : ℕ). base.given + n) c.in-Ok.ensures.1 in
    let found = c.is_at.ensures h in
    let f : FlowPair = found.0 in
    let there = (row_has base.rule c.in-Some.param c.args.flow.now.pairs f).0 (subst (λ (fs : List FlowPair). Contains fs f) c.flow_of.ensures.pairs found.1.0) in
    let x : FlowPair = record { rule = base.rule; param = base.given + c.args.number; point = c.args.arg } in
    let same : f ≡ x = λ i. record { rule = there.1.0 i; param = (there.1.1 ∙ param) i; point = found.1.1 i } in
    subst (λ (y : FlowPair). Contains c.args.flow.now.pairs y) same there.0
