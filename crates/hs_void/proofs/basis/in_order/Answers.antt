use Rattle.std.proofs.Common.{sym, ◌∙◌, subst, List, Contains, rules}
use Rattle.std.proofs.lemmas.List.{take_all}
use Rattle.std.proofs.lemmas.List.Sorted.{IsNonDecreasingBy-from_sort_by_key, Contains-permutation, IsPermutation-sym}
use Rattle.hs_numbered.specs.Certificates.{VoidRowData}
use Rattle.hs_void.proofs.basis.in_order.Goals as goal

pub returns-clause-order : goal.returns-clause-order
returns-clause-order c = IsNonDecreasingBy-from_sort_by_key (λ (v : VoidRowData). v.rule) _ c.sort_unstable_by_key.ensures.sorted (λ a r q k. search rules)

pub returns-clause-same : goal.returns-clause-same
returns-clause-same c = λ v.
    let void = c.args.void.now in
    let old = c.loop-row.rows.items in
    let new = c.sort_unstable_by_key.new.self.items in
    let moved = c.sort_unstable_by_key.ensures.permutation in
    let same = c.loop-row.invariant.rows ∙ take_all c.loop-row.row-index void c.loop-row-test.false in (
      λ m. subst (λ (vs : List VoidRowData). Contains vs v) same (Contains-permutation new old v (IsPermutation-sym old new moved) m),
      λ m. Contains-permutation old new v moved (subst (λ (vs : List VoidRowData). Contains vs v) (sym same) m),
    )
