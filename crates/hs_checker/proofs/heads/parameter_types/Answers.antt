use Rattle.std.proofs.Common.{sym, ◌∙◌, ap, subst, ℕ, ◌&&◌, nat_eq, List, filter, get_or, Contains, ◌↔◌}
use Rattle.std.proofs.lemmas.List.{take_all, get_or_default}
use Rattle.hs_scheme.specs.declared.flow.FlowPair.{FlowPair}
use Rattle.hs_scheme.specs.Problem.{ProblemData}
use Rattle.hs_checker.specs.Any.{AnyOf}
use Rattle.hs_checker.specs.Order.{HasRowAt}
use Rattle.hs_checker.proofs.AnyLemmas.{any_step}
use Rattle.hs_checker.proofs.heads.parameter_types.Goals as goal

pub loop-pair-preserved : goal.loop-pair-preserved
loop-pair-preserved c =
    let items = c.from_first_row-pair-items.result.now in
    let k = c.loop-pair.pair-index in
    let d : FlowPair = record { rule = 0; param = 0; point = 0 } in
    let pair : FlowPair = get_or items k d in
    any_step (λ (f : FlowPair) (t : ℕ). HasRowAt c.args.index.now f.point t) items k pair c.loop-pair-test.true (get_or_default items k d pair c.loop-pair-test.true)
    (λ t. Contains c.loop-pair.found.items t) (λ t. Contains c.add_types_at.new.found.items t) c.in_ok-add_types_at.ensures c.loop-pair.invariant

pub returns : goal.returns
returns c = λ t.
    let items = c.from_first_row-pair-items.result.now in
    let P = λ (f : FlowPair) (t : ℕ). HasRowAt c.args.index.now f.point t in
    let pairs = ap (λ (q : ProblemData). q.flow.pairs) c.problem.view_is in
    let m : FlowPair → _ = λ (f : FlowPair). nat_eq f.rule c.args.rule && nat_eq f.param c.args.parameter in
    let is = c.flow_of.ensures.pairs ∙ ap (filter m) pairs in
    let left = subst (λ (fs : List FlowPair). Contains c.loop-pair.found.items t ↔ AnyOf P fs t) (take_all c.loop-pair.pair-index items c.loop-pair-test.false) (c.loop-pair.invariant t) in
    let ensures = c.from_first_row-pair-items.ensures in (
      λ k. let a = left.0 k in subst (λ (fs : List FlowPair). AnyOf P fs t) is (record { item = a.item; there = ensures.part a.item a.there; holds = a.holds }),
      λ k.
          let a = subst (λ (fs : List FlowPair). AnyOf P fs t) (sym is) k in
          left.1 (record { item = a.item; there = ensures.rest a.item a.holds.row a.there a.holds.there a.holds.at; holds = a.holds }),
    )
