use Rattle.std.proofs.Common.{◌≡◌, ◌∙◌, ap, subst, ◌&&◌, nat_eq, filter, List, get_or, Contains, ◌↔◌}
use Rattle.hs_scheme.specs.declared.flow.FlowPair.{FlowPair}
use Rattle.hs_scheme.specs.declared.flow.HeadPair.{HeadPair}
use Rattle.hs_scheme.specs.Problem.{ProblemData}
use Rattle.hs_sites.specs.declared.bases.Base.{Base}
use Rattle.hs_sites.proofs.Adding.{ByAny, adds_as, by_none, by_more, by_all}
use Rattle.hs_sites.proofs.Collected.{IsBaseBy, of_point, of_parameter}
use Rattle.hs_sites.proofs.bases.add_of_parameter.Goals as goal

pub loop-pair-init : goal.loop-pair-init
loop-pair-init c = by_none c.flow_of-pair-items.result.now (IsBaseBy c.args.problem.now.flow.heads) c.args.bases.now.keys

pub loop-pair-preserved : goal.loop-pair-preserved
loop-pair-preserved c =
    let p = c.args.problem.now in
    let items = c.flow_of-pair-items.result.now in
    let none : FlowPair = record { rule = 0; param = 0; point = 0 } in
    let f : FlowPair = get_or items c.loop-pair.pair-index none in
    let own = c.at_point.result.now in
    let has = subst (λ (hs : List HeadPair). (h : HeadPair) → Contains own h ↔ (Contains hs h × (h.point ≡ f.point))) c.requires.heads c.at_point.ensures.has in
    by_more items c.loop-pair.pair-index none (IsBaseBy p.flow.heads) c.args.bases.now.keys c.loop-pair.bases.keys c.add_of_point.new.bases.keys c.loop-pair-test.true c.loop-pair.invariant
    (adds_as (ByAny own (λ (h : HeadPair) (b : Base). b ≡ record { nonterminal = h.rule; given = h.given })) (IsBaseBy p.flow.heads f) c.loop-pair.bases.keys c.add_of_point.new.bases.keys (of_point p.flow.heads own f has) c.in_ok-add_of_point.ensures)

pub returns : goal.returns
returns c =
    let p = c.args.problem.now in
    let items = c.flow_of-pair-items.result.now in
    let row : List FlowPair → List FlowPair = λ fs. filter (λ f. nat_eq f.rule c.args.rule && nat_eq f.param c.args.param) fs in
    let pairs = c.flow_of-pair-items.ensures.pairs ∙ ap (λ (q : ProblemData). row q.flow.pairs) c.problem.view_is in
    of_parameter p c.args.rule c.args.param items c.args.bases.now.keys c.loop-pair.bases.keys pairs c.requires.none
    (by_all items c.loop-pair.pair-index (IsBaseBy p.flow.heads) c.args.bases.now.keys c.loop-pair.bases.keys c.loop-pair-test.false c.loop-pair.invariant)
