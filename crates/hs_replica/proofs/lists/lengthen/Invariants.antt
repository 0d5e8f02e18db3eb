-- so far all lists are as they were
use Rattle.std.proofs.Common.{◌≡◌, ℕ, ◌+◌, ◌-◌, length}
use Rattle.hs_replica.specs.Index.{row_at}
use Rattle.hs_replica.proofs.lists.lengthen.Given as goal

abbrev pub invariant-loop-at : goal.invariant-loop-at
invariant-loop-at l = (p : ℕ) → row_at l.at.items p ≡ row_at l.initial.at.items p

abbrev pub decreases-loop-at : goal.decreases-loop-at
decreases-loop-at l = l.point + 1 - length l.at.items
