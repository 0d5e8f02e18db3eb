use Rattle.std.proofs.Common.{sym, ◌∙◌, ap, subst, List, [], ◌∷◌, ◌++◌, get_or, take, nat_eq, Contains}
use Rattle.std.proofs.lemmas.List.{take_all}
use Rattle.std.proofs.lemmas.List.Elements.{Contains-get_or, filter-append}
use Rattle.hs_scheme.specs.declared.flow.FlowPair.{FlowPair}
use Rattle.hs_scheme.specs.declared.flow.Pair.{Pair}
use Rattle.hs_scheme.specs.declared.flow.Pair.TheVariants.{OfFlow}
use Rattle.hs_scheme.specs.flow.FlowRows.{number_of}
use Rattle.hs_flow.specs.Tables.{flows_in, of_number}
use Rattle.hs_flow.proofs.TableLemmas.{flows_more}
use Rattle.hs_flow.proofs.table.by_parameter.Goals as goal

pub add_pair-requires-clause-parameter : goal.add_pair-requires-clause-parameter
add_pair-requires-clause-parameter c = λ f is.
    let ps = c.args.found.now in let i = c.loop-pair.pair-index in
    c.requires f (subst (λ (q : Pair). Contains ps q) is (Contains-get_or ps i (OfFlow (record { rule = 0; param = 0; point = 0 })) c.loop-pair-test.true))

pub loop-pair-preserved : goal.loop-pair-preserved
loop-pair-preserved c =
    let ps = c.args.found.now in let i = c.loop-pair.pair-index in let d : Pair = OfFlow (record { rule = 0; param = 0; point = 0 }) in
    let q : Pair = get_or ps i d in
    record {
      len = c.in_ok-add_pair.ensures.len ∙ c.loop-pair.invariant.len;
      lists = λ k. c.in_ok-add_pair.ensures.lists k ∙ (ap (λ (fs : List FlowPair). fs ++ of_number c.args.params.now k (flows_in (q ∷ []))) (c.loop-pair.invariant.lists k)
          ∙ (sym (filter-append (λ f. nat_eq (number_of c.args.params.now f) k) (flows_in (take i ps)) (flows_in (q ∷ [])))
          ∙ ap (λ (fs : List FlowPair). of_number c.args.params.now k fs) (sym (flows_more ps i d c.loop-pair-test.true))));
    }

pub returns-clause-lists : goal.returns-clause-lists
returns-clause-lists c = λ k. c.loop-pair.invariant.lists k ∙ ap (λ (ps : List Pair). of_number c.args.params.now k (flows_in ps)) (take_all c.loop-pair.pair-index c.args.found.now c.loop-pair-test.false)
