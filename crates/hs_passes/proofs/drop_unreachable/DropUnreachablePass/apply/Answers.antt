use Rattle.std.proofs.Common.{sym, subst, arith}
use Rattle.hs_scheme.specs.sorting.Sorted.{SortedData}
use Rattle.hs_scheme.specs.SameTree.{HaveSameTree}
use Rattle.hs_passes.proofs.Unreachable.{same_tree, unreachable_lighter}
use Rattle.hs_passes.proofs.drop_unreachable.DropUnreachablePass.apply.Goals as goal

pub returns-clause-same_tree : goal.returns-clause-same_tree
returns-clause-same_tree c =
    let s = c.args.sorted.now in
    subst (λ (t : SortedData). HaveSameTree s.scheme.ranks s.scheme.rules t.scheme.rules) (sym c.in_ok-made.ensures) (same_tree s c.is_sorted.ensures.scheme c.is_sorted.ensures.sorted)

pub returns-clause-lighter : goal.returns-clause-lighter
returns-clause-lighter c = unreachable_lighter c.args.sorted.now c.in_ok-made.made c.in_ok-made.ensures

pub overflow_sub-self : goal.overflow_sub-self
overflow_sub-self c = omega (arith, unreachable_lighter c.args.sorted.now c.in_ok-made.made c.in_ok-made.ensures, c.weight_of.ensures.is, c.weight_of-2.ensures.is)

pub returns-clause-rose : goal.returns-clause-rose
returns-clause-rose c = omega (arith, unreachable_lighter c.args.sorted.now c.in_ok-made.made c.in_ok-made.ensures, c.weight_of.ensures.is, c.weight_of-2.ensures.is)
