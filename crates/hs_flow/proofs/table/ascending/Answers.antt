use Rattle.std.proofs.Common.{◌≡◌, sym, ◌∙◌, ap, subst, ◌<◌, nat_eq, List, Contains, AllPairs, ◌≢◌, arith}
use Rattle.std.specs.List.Sorted.{IsPermutation}
use Rattle.std.proofs.lemmas.List.Kept.{AllPairs-filter}
use Rattle.hs_scheme.specs.declared.flow.FlowPair.{FlowPair}
use Rattle.hs_scheme.specs.declared.flow.Pair.{Pair}
use Rattle.hs_scheme.specs.sorting.Parameters.{IsParameter}
use Rattle.hs_scheme.specs.flow.Flow.{IsAscending, flow_cmp}
use Rattle.hs_scheme.specs.flow.FlowRows.{number_of}
use Rattle.hs_scheme.proofs.ParameterLemmas.{number_within}
use Rattle.hs_flow.specs.Tables.{flows_in, of_number}
use Rattle.hs_flow.proofs.ListLemmas.{list-read}
use Rattle.hs_flow.proofs.TableLemmas.{flow_back, flows_once}
use Rattle.hs_flow.proofs.ParameterTables.{below_none, below_all, below_more, ascends_more}
use Rattle.hs_flow.proofs.table.ascending.Goals as goal

pub loop-number-init : goal.loop-number-init
loop-number-init c = record {
  permutation = below_none c.args.params.now (flows_in c.args.found.items) (λ f h. c.requires.parameters f (flow_back c.args.found.items f h)) c.new-pairs.result.items c.new-pairs.ensures.items;
  ascending = subst (λ (ps : List FlowPair). IsAscending flow_cmp ps) (sym c.new-pairs.ensures.items) (λ i j d less within. absurd (omega arith));
}

pub loop-number-preserved : goal.loop-number-preserved
loop-number-preserved c =
    let counts = c.args.params.now in let flows = flows_in c.args.found.items in let n = c.loop-number.number in
    let of : (f : FlowPair) → Contains flows f → IsParameter counts f.rule f.param = λ f h. c.requires.parameters f (flow_back c.args.found.items f h) in
    let once : AllPairs (λ a b. a ≢ b) flows = flows_once c.args.found.items c.requires.once in
    let is : c.list.result.now ≡ of_number counts n flows = sym (list-read c.in_ok-lists.lists n c.list.result.now c.list.ensures) ∙ (c.in_ok-lists.ensures.lists n ∙ ap (λ (ps : List Pair). of_number counts n (flows_in ps)) c.as_slice.ensures.value) in
    record {
      permutation = below_more counts flows of n c.list.result.now c.loop-number.pairs.items c.add_sorted.new.pairs.items is c.in_ok-add_sorted.ensures c.loop-number.invariant.permutation;
      ascending = ascends_more counts flows of n c.list.result.now c.loop-number.pairs.items c.add_sorted.new.pairs.items is c.in_ok-add_sorted.ensures c.loop-number.invariant.permutation
          (subst (λ (ps : List FlowPair). AllPairs (λ a b. a ≢ b) ps) (sym is) (AllPairs-filter (λ a b. a ≢ b) (λ f. nat_eq (number_of counts f) n) flows once)) c.loop-number.invariant.ascending;
    }

pub returns-clause-permutation : goal.returns-clause-permutation
returns-clause-permutation c =
    let counts = c.args.params.now in let flows = flows_in c.args.found.items in let n = c.loop-number.number in
    let within : (f : FlowPair) → Contains flows f → number_of counts f < n =
    λ f h. omega (arith, number_within counts f.rule f.param (c.requires.parameters f (flow_back c.args.found.items f h)), c.in_ok-lists.ensures.len) in
    subst (λ (ps : List FlowPair). IsPermutation ps c.loop-number.pairs.items) (below_all counts flows (λ f h. c.requires.parameters f (flow_back c.args.found.items f h)) n within) c.loop-number.invariant.permutation
