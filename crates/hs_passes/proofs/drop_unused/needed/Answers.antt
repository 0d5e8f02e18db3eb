use Rattle.std.proofs.Common.{◌≡◌, sym, ◌∙◌, ap, subst, List}
use Rattle.std.proofs.lemmas.Result.{IfOk-weaker}
use Rattle.hs_scheme.specs.declared.term.Rule.{Rule}
use Rattle.hs_scheme.specs.sorting.Parameters.{counts_of}
use Rattle.hs_scheme.specs.Scheme.{SchemeData}
use Rattle.hs_passes.specs.Needing.{kept, IsAbove, IsGreatest}
use Rattle.hs_passes.proofs.drop_unused.needed.Goals as goal

pub settled-requires-clause-counted : goal.settled-requires-clause-counted
settled-requires-clause-counted c =
    let rules : c.as_slice-rules.result.now ≡ c.args.scheme.now.rules = c.as_slice-rules.ensures.value ∙ ap (λ (s : SchemeData). s.rules) c.scheme.view_is in
    c.requires ∙ sym (ap counts_of rules)

pub settled-requires-clause-above : goal.settled-requires-clause-above
settled-requires-clause-above c =
    let rules : c.as_slice-rules.result.now ≡ c.args.scheme.now.rules = c.as_slice-rules.ensures.value ∙ ap (λ (s : SchemeData). s.rules) c.scheme.view_is in
    subst (λ (rs : List Rule). IsAbove rs (kept c.args.parameters.now c.in_ok-first.first.items)) (sym rules) c.in_ok-first.ensures.above

pub returns : goal.returns
returns c =
    let rules : c.as_slice-rules.result.now ≡ c.args.scheme.now.rules = c.as_slice-rules.ensures.value ∙ ap (λ (s : SchemeData). s.rules) c.scheme.view_is in
    IfOk-weaker c.settled.result _ _ (λ v e. subst (λ (rs : List Rule). IsGreatest rs (kept c.args.parameters.now v.items)) rules e) c.settled.ensures
