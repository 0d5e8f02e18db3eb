use Rattle.std.proofs.Common.{◌≡◌, refl, sym, ◌∙◌, subst, List, true, Contains}
use Rattle.std.proofs.lemmas.Bool.{eq-eqb}
use Rattle.hs_scheme.specs.declared.flow.FlowPair.{FlowPair}
use Rattle.hs_scheme.specs.flow.Flow.{flow_cmp}
use Rattle.hs_scheme.proofs.FlowLemmas.{flow_cmp_total, flow_cmp-equal, found_there, there_found, is_of}
use Rattle.hs_scheme.proofs.flow.FlowTable.holds.Goals as goal
use Rattle.hs_scheme.proofs.Lists.{filter_keeps, filter_has}

pub returns : goal.returns
returns c =
    let xs = c.flow_of.result.now in
    let pairs = c.args.self.now.pairs in
    let pair : FlowPair = record { rule = c.args.rule; param = c.args.param; point = c.args.point } in
    let own : is_of c.args.rule c.args.param pair ≡ true = rw (eq-eqb c.args.rule c.args.rule refl, eq-eqb c.args.param c.args.param refl) in (
      λ h. filter_has (is_of c.args.rule c.args.param) pairs pair (subst (λ (ys : List FlowPair). Contains ys pair) c.flow_of.ensures.pairs
          (found_there flow_cmp flow_cmp_total flow_cmp-equal xs c.flow_of.ensures.ascending pair c.binary_search.result c.binary_search.ensures.bound c.binary_search.ensures.position (sym c.is_ok.ensures.value ∙ h))),
      λ h. c.is_ok.ensures.value ∙ there_found flow_cmp flow_cmp_total flow_cmp-equal xs c.flow_of.ensures.ascending pair c.binary_search.result c.binary_search.ensures.position
          (subst (λ (ys : List FlowPair). Contains ys pair) (sym c.flow_of.ensures.pairs) (filter_keeps (is_of c.args.rule c.args.param) pairs pair own h)),
    )
