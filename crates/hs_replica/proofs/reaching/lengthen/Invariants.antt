-- so far all numbers are as they were
use Rattle.std.proofs.Common.{◌≡◌, ℕ, ◌+◌, ◌-◌, get_or, length}
use Rattle.hs_replica.proofs.reaching.lengthen.Given as goal

abbrev pub invariant-loop-numbers : goal.invariant-loop-numbers
invariant-loop-numbers l = (p : ℕ) → get_or l.numbers.items p 0 ≡ get_or l.initial.numbers.items p 0

abbrev pub decreases-loop-numbers : goal.decreases-loop-numbers
decreases-loop-numbers l = l.point + 1 - length l.numbers.items
