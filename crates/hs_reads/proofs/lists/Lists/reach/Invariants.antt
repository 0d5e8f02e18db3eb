-- so far each list is as it was
use Rattle.std.proofs.Common.{◌≡◌, ℕ, ◌+◌, ◌-◌, length, map}
use Rattle.hs_reads.specs.Lists.{list_of}
use Rattle.hs_reads.proofs.lists.Lists.reach.Given as goal

abbrev pub invariant-loop-alloc : goal.invariant-loop-alloc
invariant-loop-alloc g l = (k : ℕ) → list_of (map (λ r. r.items) l.self-inside.rows.items) k ≡ list_of l.fn.self k

abbrev pub decreases-loop-alloc : goal.decreases-loop-alloc
decreases-loop-alloc g l = l.number + 1 - length l.self-inside.rows.items
