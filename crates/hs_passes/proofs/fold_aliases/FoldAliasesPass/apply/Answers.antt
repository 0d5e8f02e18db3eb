use Rattle.std.proofs.Common.{◌≤◌, sym, subst, arith}
use Rattle.hs_scheme.specs.sorting.Sorted.{SortedData}
use Rattle.hs_scheme.specs.SameTree.{HaveSameTree}
use Rattle.hs_passes.specs.Passing.{KeepsRest}
use Rattle.hs_passes.specs.Weight.{weight}
use Rattle.hs_passes.proofs.Folds.{folds_all}
use Rattle.hs_passes.proofs.fold_aliases.FoldAliasesPass.apply.Goals as goal

pub returns-clause-rest : goal.returns-clause-rest
returns-clause-rest c =
    let s = c.args.sorted.now in
    subst (KeepsRest s) (sym c.in_ok-made.ensures) (folds_all s c.is_sorted.ensures.scheme c.is_sorted.ensures.sorted).rest

pub returns-clause-same_tree : goal.returns-clause-same_tree
returns-clause-same_tree c =
    let s = c.args.sorted.now in
    subst (λ (t : SortedData). HaveSameTree s.scheme.ranks s.scheme.rules t.scheme.rules) (sym c.in_ok-made.ensures) (folds_all s c.is_sorted.ensures.scheme c.is_sorted.ensures.sorted).tree

pub returns-clause-lighter : goal.returns-clause-lighter
returns-clause-lighter c =
    let s = c.args.sorted.now in
    subst (λ (t : SortedData). weight t ≤ weight s) (sym c.in_ok-made.ensures) (folds_all s c.is_sorted.ensures.scheme c.is_sorted.ensures.sorted).lighter

pub overflow_sub-self : goal.overflow_sub-self
overflow_sub-self c =
    let s = c.args.sorted.now in
    let less : weight c.in_ok-made.made ≤ weight s = subst (λ (t : SortedData). weight t ≤ weight s) (sym c.in_ok-made.ensures) (folds_all s c.is_sorted.ensures.scheme c.is_sorted.ensures.sorted).lighter in
    omega (arith, less, c.weight_of.ensures.is, c.weight_of-2.ensures.is)

pub returns-clause-rose : goal.returns-clause-rose
returns-clause-rose c =
    let s = c.args.sorted.now in
    let less : weight c.in_ok-made.made ≤ weight s = subst (λ (t : SortedData). weight t ≤ weight s) (sym c.in_ok-made.ensures) (folds_all s c.is_sorted.ensures.scheme c.is_sorted.ensures.sorted).lighter in
    omega (arith, less, c.weight_of.ensures.is, c.weight_of-2.ensures.is)
