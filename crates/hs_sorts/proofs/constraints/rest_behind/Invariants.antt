-- the node so far is for what is left after the arguments so far
use Rattle.hs_sorts.specs.Constraints.{AddsNode, LeavesSort}
use Rattle.hs_sorts.proofs.constraints.rest_behind.Given as goal

abbrev pub invariant-loop-place : goal.invariant-loop-place
invariant-loop-place l = AddsNode l.fn.store l.store l.sort (LeavesSort l.node l.first l.place)
