use Rattle.std.proofs.Common.{◌≡◌, sym, ◌∙◌, ◌+◌, subst, List, Contains, get_or, inl, inr}
use Rattle.std.proofs.lemmas.List.{take_all}
use Rattle.std.proofs.lemmas.List.Elements.{Contains-get_or}
use Rattle.hs_scheme.specs.declared.flow.FlowPair.{FlowPair}
use Rattle.hs_scheme.specs.declared.flow.HeadPair.{HeadPair}
use Rattle.hs_flow_checker.specs.PassedOn.{base_of, PassesArgument}
use Rattle.hs_flow_checker.proofs.Parts.{next_item}
use Rattle.hs_flow_checker.proofs.passing.flow_gap_by.Goals as goal

pub returns-in-Err : goal.returns-in-Err
returns-in-Err c =
    let items = c.left_at_one_distance-head-items.result.now in
    let d : HeadPair = record { point = 0; rule = 0; given = 0 } in
    let k = c.loop-head.head-index in
    (get_or items k d, (c.left_at_one_distance-head-items.ensures.part (get_or items k d) (Contains-get_or items k d c.loop-head-test.true), c.in-Err.ensures))

pub loop-head-preserved : goal.loop-head-preserved
loop-head-preserved c = λ h there f passes.
    let items = c.left_at_one_distance-head-items.result.now in
    let d : HeadPair = record { point = 0; rule = 0; given = 0 } in
    let k = c.loop-head.head-index in
    let own : HeadPair = get_or items k d in
    elim (next_item items k d h c.loop-head-test.true there) [
      | inl before ↦ c.loop-head.invariant h before f passes
      | inr same ↦ c.in-Ok.ensures f (subst (λ (x : HeadPair). PassesArgument c.args.problem.now (base_of x) c.args.number c.args.arg f) same passes)
    ]

pub returns : goal.returns
returns c = λ h there f passes.
    let items = c.left_at_one_distance-head-items.result.now in
    elim (c.left_at_one_distance-head-items.ensures.rest h there) [
      | inl left ↦ c.loop-head.invariant h (subst (λ (hs : List HeadPair). Contains hs h) (sym (take_all c.loop-head.head-index items c.loop-head-test.false)) left) f passes
      | inr t ↦
          let x : FlowPair = record { rule = h.rule; param = h.given + c.args.number; point = c.args.arg } in
          let same : t.0 ≡ x = λ i. record { rule = t.1.1.0 i; param = t.1.1.1.0 i; point = t.1.1.1.1 i } in
          subst (λ (fs : List FlowPair). Contains fs f) c.all_pairs.ensures (subst (λ (g : FlowPair). Contains c.all_pairs.result.now g) (same ∙ sym passes.0) t.1.0)
    ]
