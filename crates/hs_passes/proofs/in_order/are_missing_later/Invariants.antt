use Rattle.std.proofs.Common.{◌≡◌, ◌<◌, ◌≤◌, ℕ}
use Rattle.hs_passes.specs.Order.{never, rank_of}
use Rattle.hs_passes.proofs.in_order.are_missing_later.Given as goal

-- those so far go later, or never
abbrev pub invariant-loop-param : goal.invariant-loop-param
invariant-loop-param l = (j n : ℕ) → j < l.param → l.given ≤ j → n ≤ l.low → n < never → rank_of l.parameters l.ranks l.rule j ≡ n → ⊥
