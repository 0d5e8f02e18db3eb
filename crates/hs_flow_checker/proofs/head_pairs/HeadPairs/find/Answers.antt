use Rattle.std.proofs.Common.{◌≡◌, sym, ◌∙◌, ap, true, false, Result, ℕ, is_ok, refl}
use Rattle.hs_scheme.specs.flow.Flow.{head_cmp}
use Rattle.hs_scheme.proofs.FlowLemmas.{head_cmp_total, head_cmp-equal, found_there, there_found}
use Rattle.hs_flow_checker.proofs.head_pairs.HeadPairs.find.Goals as goal

pub returns-in-Ok : goal.returns-in-Ok
returns-in-Ok c =
    let pairs = c.at_point-pairs.result.now in
    ((c.at_point-pairs.ensures.has c.args.pair).0
    (found_there head_cmp head_cmp_total head_cmp-equal pairs c.at_point-pairs.ensures.ascending c.args.pair c.binary_search.result c.binary_search.ensures.bound c.binary_search.ensures.position (ap (λ (r : Result ℕ ℕ). is_ok r) c.in-Ok.is))).0

pub returns-in-Err : goal.returns-in-Err
returns-in-Err c = λ h.
    let pairs = c.at_point-pairs.result.now in
    let f = there_found head_cmp head_cmp_total head_cmp-equal pairs c.at_point-pairs.ensures.ascending c.args.pair c.binary_search.result c.binary_search.ensures.position ((c.at_point-pairs.ensures.has c.args.pair).1 (h, refl)) in
    let g : true ≡ false = sym f ∙ ap (λ (r : Result ℕ ℕ). is_ok r) c.in-Err.is in
    absurd (cc)
