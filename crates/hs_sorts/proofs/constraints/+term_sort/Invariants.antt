-- the node so far is for what is left after the arguments so far
use Rattle.hs_sorts.specs.Constraints.{node_of, AddsNode}
use Rattle.hs_sorts.proofs.constraints.+term_sort.Given as goal

abbrev pub decreases-term_sort : goal.decreases-term_sort
decreases-term_sort l = goal.size-term_sort l

abbrev pub invariant-loop-arg : goal.invariant-loop-arg
invariant-loop-arg l =
    AddsNode l.fn.store l.store l.sort (λ v k. Rattle.hs_scheme.specs.sorting.Sorting.Applied (λ h. v (node_of l.heads.rules l.heads.first h)) (Rattle.hs_scheme.specs.Tree.forest (Rattle.std.proofs.Common.take l.arg-index l.arg-items)) (v l.initial.sort) k)
