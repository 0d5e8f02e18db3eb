use Rattle.std.proofs.Common.{sym, subst, List, Contains, get_or, inl, inr}
use Rattle.std.proofs.lemmas.List.{take_all}
use Rattle.hs_scheme.specs.declared.flow.FlowPair.{FlowPair}
use Rattle.hs_flow_checker.specs.Starts.{IsEmptyAt}
use Rattle.hs_flow_checker.proofs.Parts.{next_item, in_parts, in_rest, none_first}
use Rattle.hs_flow_checker.proofs.starts.from_first_with.Goals as goal

pub returns-then-not-is_empty_at-clause-part : goal.returns-then-not-is_empty_at-clause-part
returns-then-not-is_empty_at-clause-part c = λ f k. in_rest c.args.row.now c.loop-place.place f k

pub returns-then-not-is_empty_at-clause-rest : goal.returns-then-not-is_empty_at-clause-rest
returns-then-not-is_empty_at-clause-rest c = λ f there. elim (in_parts c.args.row.now c.loop-place.place f there) [
  | inl before ↦ inr (c.loop-place.invariant f before)
  | inr behind ↦ inl behind
]

pub loop-place-preserved : goal.loop-place-preserved
loop-place-preserved c = λ f there.
    let row = c.args.row.now in
    let d : FlowPair = record { rule = 0; param = 0; point = 0 } in
    let k = c.loop-place.place in
    let own : FlowPair = get_or row k d in
    elim (next_item row k d f c.loop-place-test.true there) [
      | inl before ↦ c.loop-place.invariant f before
      | inr same ↦ subst (λ (x : FlowPair). IsEmptyAt c.args.starts.now x.point) (sym same) (c.is_empty_at.ensures c.if-not-is_empty_at.false)
    ]

pub returns-clause-part : goal.returns-clause-part
returns-clause-part c = λ f k. absurd (none_first c.args.row.now f k)

pub returns-clause-rest : goal.returns-clause-rest
returns-clause-rest c = λ f there. inr (c.loop-place.invariant f (subst (λ (fs : List FlowPair). Contains fs f) (sym (take_all c.loop-place.place c.args.row.now c.loop-place-test.false)) there))
