-- the first rules up to `sorted` have a sorting, and those up to `unsorted` have none
use Rattle.std.proofs.Common.{◌<◌, ◌≤◌, ◌-◌, length}
use Rattle.hs_scheme.specs.sorting.Sorting.{HasSorting}
use Rattle.hs_sorts.proofs.inference.first_ill_sorted.Given as goal

abbrev pub invariant-loop-unsorted : goal.invariant-loop-unsorted
invariant-loop-unsorted l = record {
  apart : l.sorted < l.unsorted;
  within : l.unsorted ≤ length l.rules;
  have : HasSorting l.rules l.ranks l.sorted;
  have_not : HasSorting l.rules l.ranks l.unsorted → ⊥;
}

abbrev pub decreases-loop-unsorted : goal.decreases-loop-unsorted
decreases-loop-unsorted l = l.unsorted - l.sorted
