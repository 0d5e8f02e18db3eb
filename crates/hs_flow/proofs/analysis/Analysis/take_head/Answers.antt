use Rattle.std.proofs.Common.{◌≡◌, sym, subst, List, All, Contains, slice_get, Some, arith}
use Rattle.std.proofs.lemmas.Option.{slice_get_within}
use Rattle.hs_scheme.specs.declared.flow.FlowPair.{FlowPair}
use Rattle.hs_scheme.specs.declared.flow.HeadPair.{HeadPair}
use Rattle.hs_scheme.specs.declared.flow.Pair.TheVariants.{OfFlow, OfHead}
use Rattle.hs_scheme.proofs.Lists.{read-slice_get}
use Rattle.hs_flow.specs.Pairs.{HasBaseAt, IsReady}
use Rattle.hs_flow.specs.Analysis.{AnalysisData, IsAnalysis}
use Rattle.hs_flow.proofs.ListLemmas.{list-read}
use Rattle.hs_flow.proofs.AnalysisLemmas.{extended, extended_at, step_head, flows_found}
use Rattle.hs_flow.proofs.analysis.Analysis.take_head.Goals as goal

pub spread_head-requires-clause-head : goal.spread_head-requires-clause-head
spread_head-requires-clause-head c =
    let next : slice_get c.self.inside.pairs.found c.self.inside.taken ≡ Some (OfHead c.args.head) = subst (λ (x : AnalysisData). slice_get x.pairs.found x.taken ≡ Some (OfHead c.args.head)) (sym c.self.view_is) c.requires.next in
    let r = read-slice_get c.self.inside.pairs.found c.self.inside.taken (OfHead c.args.head) next in (c.self.inside.taken, r.0, r.1)

pub spread_head-requires-clause-flows : goal.spread_head-requires-clause-flows
spread_head-requires-clause-flows c =
    subst (λ (xs : List FlowPair). All (λ (x : FlowPair). (x.point ≡ c.args.head.point) × Contains c.self.inside.pairs.found (OfFlow x)) xs)
    (list-read c.self.inside.flows c.args.head.point c.list-flows.result.now c.list-flows.ensures)
    (flows_found c.self.inside.pairs c.self.inside.taken c.self.inside.flows c.self.inside.heads c.self.invariant c.args.head.point)

pub invariant_of-self : goal.invariant_of-self
invariant_of-self c = extended c.self.inside.pairs c.spread_head.new.self c.self.inside.taken c.self.inside.flows c.self.inside.heads c.spread_head.ensures.extends c.self.invariant

pub invariant_of-self-in_err-push : goal.invariant_of-self-in_err-push
invariant_of-self-in_err-push c = subst (λ (hs : List (List HeadPair)). IsAnalysis c.self.inside.flows hs (record { pairs = c.spread_head.new.self; taken = c.self.inside.taken })) (sym c.in_err-push.ensures.same)
    (extended c.self.inside.pairs c.spread_head.new.self c.self.inside.taken c.self.inside.flows c.self.inside.heads c.spread_head.ensures.extends c.self.invariant)

pub overflow_add-self : goal.overflow_add-self
overflow_add-self c =
    let next : slice_get c.self.inside.pairs.found c.self.inside.taken ≡ Some (OfHead c.args.head) = subst (λ (x : AnalysisData). slice_get x.pairs.found x.taken ≡ Some (OfHead c.args.head)) (sym c.self.view_is) c.requires.next in
    let ready : IsReady c.self.inside.pairs = subst (λ (x : AnalysisData). IsReady x.pairs) (sym c.self.view_is) c.requires.ready in
    omega (arith, slice_get_within c.self.inside.pairs.found c.self.inside.taken (OfHead c.args.head) next, ready.within, c.self.invariant.max_fits)

pub invariant_of-self-2 : goal.invariant_of-self-2
invariant_of-self-2 c =
    let next : slice_get c.self.inside.pairs.found c.self.inside.taken ≡ Some (OfHead c.args.head) = subst (λ (x : AnalysisData). slice_get x.pairs.found x.taken ≡ Some (OfHead c.args.head)) (sym c.self.view_is) c.requires.next in
    let bases = subst (λ (xs : List FlowPair). (x : FlowPair) → Contains xs x → HasBaseAt c.spread_head.new.self (record { rule = x.rule; param = x.param; base = c.args.head.rule; given = c.args.head.given }))
    (sym (list-read c.self.inside.flows c.args.head.point c.list-flows.result.now c.list-flows.ensures)) c.in_ok-spread_head.ensures.bases in
    step_head c.spread_head.new.self c.self.inside.taken c.self.inside.flows c.self.inside.heads (extended c.self.inside.pairs c.spread_head.new.self c.self.inside.taken c.self.inside.flows c.self.inside.heads c.spread_head.ensures.extends c.self.invariant)
    c.args.head c.push.new.self (extended_at c.self.inside.pairs c.spread_head.new.self c.self.inside.taken (OfHead c.args.head) c.spread_head.ensures.extends next) c.in_ok-push.ensures.pushed bases
