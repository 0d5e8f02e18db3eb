use Rattle.std.proofs.Common.{take}
use Rattle.hs_scheme.specs.Tree.{forest}
use Rattle.hs_passes.specs.Order.{rank_of, AreInOrder}
use Rattle.hs_passes.proofs.in_order.+is_in_order.Given as goal

-- the arguments so far are in order
abbrev pub invariant-loop-i : goal.invariant-loop-i
invariant-loop-i l = AreInOrder (rank_of l.parameters l.ranks) l.rule l.low l.term-inside.head (forest (take l.i l.arg-items))
