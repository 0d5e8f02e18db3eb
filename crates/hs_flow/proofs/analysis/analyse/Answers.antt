use Rattle.std.proofs.Common.{◌≡◌, ℕ, sym, ◌∙◌, ap, subst, List, length, All, arith}
use Rattle.hs_scheme.specs.declared.term.Rule.{Rule}
use Rattle.hs_scheme.specs.sorting.Parameters.{IsParameter, counts_of}
use Rattle.hs_scheme.specs.Scheme.{SchemeData}
use Rattle.hs_scheme.specs.flow.Points.{PointsData, points_of}
use Rattle.hs_scheme.specs.Problem.{FlowWithin, HeadWithin}
use Rattle.hs_scheme.specs.flow.Flow.{IsSupported, IsClosed}
use Rattle.hs_flow.proofs.TableLemmas.{is_flow, all_flows_within, all_heads_within, supported_parameters}
use Rattle.hs_flow.specs.declared.fault.FlowFault.TheVariants.{FlowLimit}
use Rattle.hs_flow.proofs.SupportLemmas.{no_refusal}
use Rattle.hs_flow.proofs.analysis.analyse.Goals as goal

pub table-requires-clause-parameters : goal.table-requires-clause-parameters
table-requires-clause-parameters c = λ f h.
    let rules : c.as_slice.result.now ≡ c.args.scheme.now.rules = c.as_slice.ensures.value ∙ ap (λ (s : SchemeData). s.rules) c.scheme.view_is in
    let params : c.params.result.now ≡ counts_of c.as_slice.result.now = c.params.ensures.params ∙ (ap (λ (p : PointsData). p.params) c.requires ∙ ap counts_of (sym rules)) in
    subst (λ (ns : List ℕ). IsParameter ns f.rule f.param) (sym params) (supported_parameters c.as_slice.result.now c.in_ok-found.field-0.items c.in_ok-found.ensures.supported f h)

pub returns-clause-flow : goal.returns-clause-flow
returns-clause-flow c =
    let rules : c.as_slice.result.now ≡ c.args.scheme.now.rules = c.as_slice.ensures.value ∙ ap (λ (s : SchemeData). s.rules) c.scheme.view_is in
    let supported : IsSupported c.args.scheme.now.rules c.in_ok-found.field-0.items = subst (λ (rs : List Rule). IsSupported rs c.in_ok-found.field-0.items) rules c.in_ok-found.ensures.supported in
    let closed : IsClosed c.args.scheme.now.rules c.in_ok-found.field-0.items = subst (λ (rs : List Rule). IsClosed rs c.in_ok-found.field-0.items) rules c.in_ok-found.ensures.closed in
    is_flow c.args.scheme.now.rules c.in_ok-found.field-0.items c.in_ok-table.table.pairs c.in_ok-table.table.heads supported closed c.in_ok-table.ensures.same c.in_ok-table.ensures.ascending

pub returns-clause-pairs : goal.returns-clause-pairs
returns-clause-pairs c =
    let rules : c.as_slice.result.now ≡ c.args.scheme.now.rules = c.as_slice.ensures.value ∙ ap (λ (s : SchemeData). s.rules) c.scheme.view_is in
    let supported : IsSupported c.args.scheme.now.rules c.in_ok-found.field-0.items = subst (λ (rs : List Rule). IsSupported rs c.in_ok-found.field-0.items) rules c.in_ok-found.ensures.supported in
    subst (λ (p : PointsData). All (FlowWithin c.args.scheme.now.rules (length p.points)) c.in_ok-table.table.pairs) (sym c.requires)
    (all_flows_within c.args.scheme.now.rules c.in_ok-found.field-0.items c.in_ok-table.table.pairs c.in_ok-table.table.heads supported c.in_ok-table.ensures.same)

pub returns-clause-heads : goal.returns-clause-heads
returns-clause-heads c =
    let rules : c.as_slice.result.now ≡ c.args.scheme.now.rules = c.as_slice.ensures.value ∙ ap (λ (s : SchemeData). s.rules) c.scheme.view_is in
    let supported : IsSupported c.args.scheme.now.rules c.in_ok-found.field-0.items = subst (λ (rs : List Rule). IsSupported rs c.in_ok-found.field-0.items) rules c.in_ok-found.ensures.supported in
    subst (λ (p : PointsData). All (HeadWithin c.args.scheme.now.rules (length p.points)) c.in_ok-table.table.heads) (sym c.requires)
    (all_heads_within c.args.scheme.now.rules c.in_ok-found.field-0.items c.in_ok-table.table.pairs c.in_ok-table.table.heads supported c.in_ok-table.ensures.same)

pub demanded-found-requires-clause-points : goal.demanded-found-requires-clause-points
demanded-found-requires-clause-points c =
    let rules : c.as_slice.result.now ≡ c.args.scheme.now.rules = c.as_slice.ensures.value ∙ ap (λ (s : SchemeData). s.rules) c.scheme.view_is in
    c.requires ∙ ap points_of (sym rules)

pub demanded-found-requires-clause-users : goal.demanded-found-requires-clause-users
demanded-found-requires-clause-users c = c.in_ok-users.ensures

pub returns-clause-ascending : goal.returns-clause-ascending
returns-clause-ascending c = c.in_ok-table.ensures.ascending

pub returns-clause-within : goal.returns-clause-within
returns-clause-within c = omega (arith, c.in_ok-table.ensures.len, c.in_ok-found.ensures.within)

pub returns-clause-limit : goal.returns-clause-limit
returns-clause-limit c = λ e. absurd (no_refusal c.in_ok-table.table FlowLimit e)
