-- the sets so far are asked
use Rattle.std.proofs.Common.{ℕ, ◌<◌}
use Rattle.hs_table.specs.Entries.{set_at}
use Rattle.hs_weak.specs.Strength.{AsStrongAs, AsksEach}
use Rattle.hs_weak.proofs.comparing.asks_at_least.Given as goal

abbrev pub invariant-loop-parameter : goal.invariant-loop-parameter
invariant-loop-parameter l = (j : ℕ) → j < l.parameter → AsksEach AsStrongAs (set_at l.env j) (set_at l.other j)
