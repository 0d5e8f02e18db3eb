use Rattle.std.proofs.Common.{◌≡◌, sym, ◌∙◌, ap, subst, ℕ, true, false, List, Result, is_ok, Contains, refl}
use Rattle.hs_scheme.specs.declared.flow.FlowPair.{FlowPair}
use Rattle.hs_scheme.specs.flow.Flow.{flow_cmp}
use Rattle.hs_scheme.proofs.FlowLemmas.{flow_cmp_total, flow_cmp-equal, found_there, there_found}
use Rattle.hs_flow_checker.proofs.GapLemmas.{row_has}
use Rattle.hs_flow_checker.proofs.passing.find.Goals as goal

pub returns-in-Ok : goal.returns-in-Ok
returns-in-Ok c =
    let row = c.flow_of-row.result.now in
    let pair = c.args.pair in
    let there = found_there flow_cmp flow_cmp_total flow_cmp-equal row c.flow_of-row.ensures.ascending pair c.binary_search.result c.binary_search.ensures.bound c.binary_search.ensures.position (ap (λ (r : Result ℕ ℕ). is_ok r) c.in-Ok.is) in
    ((row_has pair.rule pair.param c.args.flow.now.pairs pair).0 (subst (λ (fs : List FlowPair). Contains fs pair) c.flow_of-row.ensures.pairs there)).0

pub returns-in-Err : goal.returns-in-Err
returns-in-Err c = λ h.
    let row = c.flow_of-row.result.now in
    let pair = c.args.pair in
    let own = (row_has pair.rule pair.param c.args.flow.now.pairs pair).1 (h, (refl, refl)) in
    let f = there_found flow_cmp flow_cmp_total flow_cmp-equal row c.flow_of-row.ensures.ascending pair c.binary_search.result c.binary_search.ensures.position (subst (λ (fs : List FlowPair). Contains fs pair) (sym c.flow_of-row.ensures.pairs) own) in
    let g : true ≡ false = sym f ∙ ap (λ (r : Result ℕ ℕ). is_ok r) c.in-Err.is in
    absurd (cc)
