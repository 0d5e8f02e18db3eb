-- Supports by the front of a log.
--     IsFront p T n front         the entries before that place have rank less than n, and the others not
--     IsLeastSupport p log s e    the entry follows from the log by this support, and by none with a lesser list of places
use Rattle.std.specs.Prelude.{◌≡◌, ℕ, ◌<◌, ◌≤◌, List, slice_get, Some}
use Rattle.hs_scheme.specs.Problem.{ProblemData}
use Rattle.hs_table.specs.Entries.{EntryData}
use Rattle.hs_table.specs.Follows.{Support, FollowsBy, premises}
use Rattle.hs_rules.specs.Order.{IsNoGreater}
use Rattle.hs_rank.specs.Canonical.{HasRank}

pub record IsFront (p : ProblemData) (T : List EntryData) (n front : ℕ) : Type 0 where
  pub lower : (place : ℕ) (e : EntryData) → place < front → slice_get T place ≡ Some e → (m : ℕ) × (HasRank p m e × (m < n))
  pub rest : (place : ℕ) (e : EntryData) → front ≤ place → slice_get T place ≡ Some e → (m : ℕ) × (HasRank p m e × (n ≤ m))

pub record IsLeastSupport (p : ProblemData) (log : List EntryData) (s : Support) (e : EntryData) : Type 0 where
  pub follows : FollowsBy p log s e
  pub least : (r : Support) → FollowsBy p log r e → IsNoGreater (premises s) (premises r)
