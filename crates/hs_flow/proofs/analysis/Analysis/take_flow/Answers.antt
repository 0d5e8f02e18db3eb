use Rattle.std.proofs.Common.{◌≡◌, sym, subst, List, All, Contains, slice_get, Some, arith, ◌<◌, length}
use Rattle.std.proofs.lemmas.Option.{slice_get_within}
use Rattle.hs_scheme.specs.declared.flow.FlowPair.{FlowPair}
use Rattle.hs_scheme.specs.declared.flow.HeadPair.{HeadPair}
use Rattle.hs_scheme.specs.declared.flow.Pair.TheVariants.{OfFlow, OfHead}
use Rattle.hs_scheme.proofs.Lists.{read-slice_get}
use Rattle.hs_flow.specs.Pairs.{HasBaseAt, IsReady, Extends}
use Rattle.hs_flow.specs.Analysis.{AnalysisData, IsAnalysis}
use Rattle.hs_flow.proofs.ListLemmas.{list-read}
use Rattle.hs_flow.proofs.PairLemmas.{extends_same}
use Rattle.hs_flow.proofs.AnalysisLemmas.{extended, extended_at, step_unused, step_flow, heads_found}
use Rattle.hs_scheme.specs.flow.Points.{points_of}
use Rattle.hs_flow.proofs.analysis.Analysis.take_flow.Goals as goal

pub overflow_add-self : goal.overflow_add-self
overflow_add-self c =
    let next : slice_get c.self.inside.pairs.found c.self.inside.taken ≡ Some (OfFlow c.args.flow) = subst (λ (x : AnalysisData). slice_get x.pairs.found x.taken ≡ Some (OfFlow c.args.flow)) (sym c.self.view_is) c.requires.next in
    let ready : IsReady c.self.inside.pairs = subst (λ (x : AnalysisData). IsReady x.pairs) (sym c.self.view_is) c.requires.ready in
    omega (arith, slice_get_within c.self.inside.pairs.found c.self.inside.taken (OfFlow c.args.flow) next, ready.within, c.self.invariant.max_fits)

pub invariant_of-self : goal.invariant_of-self
invariant_of-self c =
    let next : slice_get c.self.inside.pairs.found c.self.inside.taken ≡ Some (OfFlow c.args.flow) = subst (λ (x : AnalysisData). slice_get x.pairs.found x.taken ≡ Some (OfFlow c.args.flow)) (sym c.self.view_is) c.requires.next in
    step_unused c.self.inside.pairs c.self.inside.taken c.self.inside.flows c.self.inside.heads c.self.invariant c.args.flow next (c.is_used.ensures c.if-not-is_used.true)

pub returns-then-not-is_used-clause-extends : goal.returns-then-not-is_used-clause-extends
returns-then-not-is_used-clause-extends c = subst (λ (x : AnalysisData). Extends x.pairs c.self.inside.pairs) c.self.view_is (extends_same c.self.inside.pairs)

pub spread_flow-requires-clause-flow : goal.spread_flow-requires-clause-flow
spread_flow-requires-clause-flow c =
    let next : slice_get c.self.inside.pairs.found c.self.inside.taken ≡ Some (OfFlow c.args.flow) = subst (λ (x : AnalysisData). slice_get x.pairs.found x.taken ≡ Some (OfFlow c.args.flow)) (sym c.self.view_is) c.requires.next in
    let r = read-slice_get c.self.inside.pairs.found c.self.inside.taken (OfFlow c.args.flow) next in (c.self.inside.taken, r.0, r.1)

pub spread_flow-requires-clause-heads : goal.spread_flow-requires-clause-heads
spread_flow-requires-clause-heads c =
    subst (λ (xs : List HeadPair). All (λ (x : HeadPair). (x.point ≡ c.args.flow.point) × Contains c.self.inside.pairs.found (OfHead x)) xs)
    (list-read c.self.inside.heads c.args.flow.point c.list-heads.result.now c.list-heads.ensures)
    (heads_found c.self.inside.pairs c.self.inside.taken c.self.inside.flows c.self.inside.heads c.self.invariant c.args.flow.point)

pub invariant_of-self-in_err-spread_flow : goal.invariant_of-self-in_err-spread_flow
invariant_of-self-in_err-spread_flow c = extended c.self.inside.pairs c.spread_flow.new.self c.self.inside.taken c.self.inside.flows c.self.inside.heads c.spread_flow.ensures.extends c.self.invariant

pub invariant_of-self-in_err-push : goal.invariant_of-self-in_err-push
invariant_of-self-in_err-push c = subst (λ (fs : List (List FlowPair)). IsAnalysis fs c.self.inside.heads (record { pairs = c.spread_flow.new.self; taken = c.self.inside.taken })) (sym c.in_err-push.ensures.same)
    (extended c.self.inside.pairs c.spread_flow.new.self c.self.inside.taken c.self.inside.flows c.self.inside.heads c.spread_flow.ensures.extends c.self.invariant)

pub overflow_add-self-2 : goal.overflow_add-self-2
overflow_add-self-2 c =
    let next : slice_get c.self.inside.pairs.found c.self.inside.taken ≡ Some (OfFlow c.args.flow) = subst (λ (x : AnalysisData). slice_get x.pairs.found x.taken ≡ Some (OfFlow c.args.flow)) (sym c.self.view_is) c.requires.next in
    let ready : IsReady c.self.inside.pairs = subst (λ (x : AnalysisData). IsReady x.pairs) (sym c.self.view_is) c.requires.ready in
    omega (arith, slice_get_within c.self.inside.pairs.found c.self.inside.taken (OfFlow c.args.flow) next, ready.within, c.self.invariant.max_fits)

pub invariant_of-self-2 : goal.invariant_of-self-2
invariant_of-self-2 c =
    let next : slice_get c.self.inside.pairs.found c.self.inside.taken ≡ Some (OfFlow c.args.flow) = subst (λ (x : AnalysisData). slice_get x.pairs.found x.taken ≡ Some (OfFlow c.args.flow)) (sym c.self.view_is) c.requires.next in
    let bases = subst (λ (xs : List HeadPair). (x : HeadPair) → Contains xs x → HasBaseAt c.spread_flow.new.self (record { rule = c.args.flow.rule; param = c.args.flow.param; base = x.rule; given = x.given }))
    (sym (list-read c.self.inside.heads c.args.flow.point c.list-heads.result.now c.list-heads.ensures)) c.in_ok-spread_flow.ensures.bases in
    step_flow c.spread_flow.new.self c.self.inside.taken c.self.inside.flows c.self.inside.heads (extended c.self.inside.pairs c.spread_flow.new.self c.self.inside.taken c.self.inside.flows c.self.inside.heads c.spread_flow.ensures.extends c.self.invariant)
    c.args.flow c.push.new.self (extended_at c.self.inside.pairs c.spread_flow.new.self c.self.inside.taken (OfFlow c.args.flow) c.spread_flow.ensures.extends next) c.in_ok-push.ensures.pushed bases

pub returns-then-not-is_used-clause-ready : goal.returns-then-not-is_used-clause-ready
returns-then-not-is_used-clause-ready c = subst (λ (x : AnalysisData). IsReady x.pairs) (sym c.self.view_is) c.requires.ready

pub returns-then-not-is_used-clause-limit : goal.returns-then-not-is_used-clause-limit
returns-then-not-is_used-clause-limit c =
    let ready : IsReady c.self.inside.pairs = subst (λ (x : AnalysisData). IsReady x.pairs) (sym c.self.view_is) c.requires.ready in
    record { within = ready.within; over = λ e. absurd (cc) }

pub list-heads-requires : goal.list-heads-requires
list-heads-requires c = subst (λ n. c.args.flow.point < n) (sym c.self.invariant.heads_len) (subst (λ (x : AnalysisData). c.args.flow.point < length (points_of x.pairs.rules).points) (sym c.self.view_is) c.requires.point)

pub spread_flow-requires-clause-ready : goal.spread_flow-requires-clause-ready
spread_flow-requires-clause-ready c = subst (λ (x : AnalysisData). IsReady x.pairs) (sym c.self.view_is) c.requires.ready

pub returns-in_err-spread_flow-clause-extends : goal.returns-in_err-spread_flow-clause-extends
returns-in_err-spread_flow-clause-extends c = subst (λ (x : AnalysisData). Extends x.pairs c.spread_flow.new.self) c.self.view_is c.spread_flow.ensures.extends

pub returns-in_err-push-clause-extends : goal.returns-in_err-push-clause-extends
returns-in_err-push-clause-extends c = subst (λ (x : AnalysisData). Extends x.pairs c.spread_flow.new.self) c.self.view_is c.spread_flow.ensures.extends

pub push-requires : goal.push-requires
push-requires c = subst (λ n. c.args.flow.point < n) (sym c.self.invariant.flows_len) (subst (λ (x : AnalysisData). c.args.flow.point < length (points_of x.pairs.rules).points) (sym c.self.view_is) c.requires.point)

pub returns-clause-extends : goal.returns-clause-extends
returns-clause-extends c = subst (λ (x : AnalysisData). Extends x.pairs c.spread_flow.new.self) c.self.view_is c.spread_flow.ensures.extends

pub returns-clause-ready : goal.returns-clause-ready
returns-clause-ready c = c.in_ok-spread_flow.ensures.ready

pub returns-clause-limit : goal.returns-clause-limit
returns-clause-limit c = record { within = c.in_ok-spread_flow.ensures.limit.within; over = λ e. absurd (cc) }
