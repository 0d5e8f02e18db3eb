use Rattle.std.proofs.Common.{◌≡◌, ◌↔◌, ◌+◌, Contains, sym, ◌∙◌, ap, subst, List, length, arith}
use Rattle.std.specs.List.Sorted.{IsPermutation}
use Rattle.std.proofs.lemmas.List.Sorted.{length_permutation}
use Rattle.hs_scheme.specs.declared.flow.HeadPair.{HeadPair}
use Rattle.hs_scheme.specs.declared.flow.Pair.{Pair}
use Rattle.hs_scheme.specs.flow.Flow.{FlowData, IsFlowTable, pairs_of, head_cmp}
use Rattle.hs_scheme.proofs.FlowLemmas.{head_cmp_total, head_cmp-equal}
use Rattle.hs_scheme.proofs.Orderings.{ascends}
use Rattle.hs_flow.specs.Tables.{flows_in, heads_in}
use Rattle.hs_flow.proofs.TableLemmas.{length-split, same_pairs, heads_once, all_parameters}
use Rattle.hs_flow.proofs.table.table.Goals as goal

pub of-requires-clause-ascending : goal.of-requires-clause-ascending
of-requires-clause-ascending c =
    let ps = c.args.found.items in
    let heads : IsPermutation (heads_in ps) c.sort_unstable.new.self.items = subst (λ (hs : List HeadPair). IsPermutation hs c.sort_unstable.new.self.items) (c.in_ok-heads.ensures ∙ ap heads_in c.as_slice.ensures.value) c.sort_unstable.ensures.permutation in
    record {
      pairs = c.in_ok-pairs.ensures.ascending;
      heads = ascends head_cmp head_cmp_total head_cmp-equal (heads_in ps) c.sort_unstable.new.self.items (heads_once ps c.requires.once) heads c.sort_unstable.ensures.sorted;
    }

pub of-requires-clause-parameters : goal.of-requires-clause-parameters
of-requires-clause-parameters c =
    let ps = c.args.found.items in
    let heads : IsPermutation (heads_in ps) c.sort_unstable.new.self.items = subst (λ (hs : List HeadPair). IsPermutation hs c.sort_unstable.new.self.items) (c.in_ok-heads.ensures ∙ ap heads_in c.as_slice.ensures.value) c.sort_unstable.ensures.permutation in
    all_parameters ps c.in_ok-pairs.pairs.items c.sort_unstable.new.self.items c.args.params.now (same_pairs ps c.in_ok-pairs.pairs.items c.sort_unstable.new.self.items c.in_ok-pairs.ensures.permutation heads) c.requires.parameters

pub returns-clause-same : goal.returns-clause-same
returns-clause-same c =
    let ps = c.args.found.items in
    let heads : IsPermutation (heads_in ps) c.sort_unstable.new.self.items = subst (λ (hs : List HeadPair). IsPermutation hs c.sort_unstable.new.self.items) (c.in_ok-heads.ensures ∙ ap heads_in c.as_slice.ensures.value) c.sort_unstable.ensures.permutation in
    subst (λ (t : FlowData). (q : Pair) → Contains ps q ↔ Contains (pairs_of t.pairs t.heads) q) (sym c.in_ok-made.ensures)
    (same_pairs ps c.in_ok-pairs.pairs.items c.sort_unstable.new.self.items c.in_ok-pairs.ensures.permutation heads)

pub returns-clause-ascending : goal.returns-clause-ascending
returns-clause-ascending c =
    let ps = c.args.found.items in
    let heads : IsPermutation (heads_in ps) c.sort_unstable.new.self.items = subst (λ (hs : List HeadPair). IsPermutation hs c.sort_unstable.new.self.items) (c.in_ok-heads.ensures ∙ ap heads_in c.as_slice.ensures.value) c.sort_unstable.ensures.permutation in
    subst (λ (t : FlowData). IsFlowTable t) (sym c.in_ok-made.ensures) (record {
      pairs = c.in_ok-pairs.ensures.ascending;
      heads = ascends head_cmp head_cmp_total head_cmp-equal (heads_in ps) c.sort_unstable.new.self.items (heads_once ps c.requires.once) heads c.sort_unstable.ensures.sorted;
    })

pub returns-clause-len : goal.returns-clause-len
returns-clause-len c =
    let ps = c.args.found.items in
    let fs : length c.in_ok-pairs.pairs.items ≡ length (flows_in ps) = length_permutation (flows_in ps) c.in_ok-pairs.pairs.items c.in_ok-pairs.ensures.permutation in
    let hs : length c.sort_unstable.new.self.items ≡ length c.in_ok-heads.heads.items = length_permutation c.in_ok-heads.heads.items c.sort_unstable.new.self.items c.sort_unstable.ensures.permutation in
    subst (λ (t : FlowData). length t.pairs + length t.heads ≡ length ps) (sym c.in_ok-made.ensures)
    (omega (arith, fs, hs, ap (λ (xs : List HeadPair). length xs) (c.in_ok-heads.ensures ∙ ap heads_in c.as_slice.ensures.value), length-split ps))
