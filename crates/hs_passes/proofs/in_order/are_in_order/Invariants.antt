use Rattle.hs_passes.specs.Order.{rank_of, AllInOrder}
use Rattle.hs_passes.proofs.in_order.are_in_order.Given as goal

abbrev pub invariant-loop-i : goal.invariant-loop-i
invariant-loop-i l = AllInOrder (rank_of l.parameters l.ranks) l.rules l.i
