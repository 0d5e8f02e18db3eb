-- What the last set adds to the arrows.
use Rattle.std.proofs.Common.{◌≡◌, ap, ℕ, zero, suc, ◌-◌, ◌<◌, ◌≤◌, List, [], ◌∷◌, length, get_or, take, arith}
use Rattle.hs_table.specs.Types.{TypeTree, arrow, arrows}
use Rattle.hs_table.specs.Entries.{Env}

pub arrows_step : (k : ℕ) (ss : Env) (s : List TypeTree) (t : TypeTree) → 0 < k → k ≤ length ss → s ≡ get_or ss (k - 1) s → arrows (take (k - 1) ss) (arrow s t) ≡ arrows (take k ss) t
arrows_step zero ss s t pos le e = absurd (omega arith)
arrows_step (suc k) ss s t pos le e = rw (minus k) (go k ss (omega arith) (rw (minus k) at e))
  where
    minus : (k : ℕ) → suc k - 1 ≡ k
    minus k = omega arith

    go : (k : ℕ) (ss : Env) → k < length ss → s ≡ get_or ss k s → arrows (take k ss) (arrow s t) ≡ arrows (take (suc k) ss) t
    go k [] lt e = absurd (omega arith)
    go zero (r ∷ ss) lt e = ap (λ x. arrow x t) e
    go (suc k) (r ∷ ss) lt e = ap (arrow r) (go k ss (omega arith) e)
