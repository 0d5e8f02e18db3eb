-- Where the items of each point begin in a list by points.
--     IsStartBy at xs point n   the items of lesser points are the first n
--     AreStartsBy at xs starts  so for each point, and for one past the last
--     IsEmptyAt starts point    no item is of the point, by the starts
use Rattle.std.specs.Prelude.{◌≡◌, ℕ, ◌+◌, ◌<◌, ◌≤◌, List, length, slice_index_or, Contains}
use Rattle.hs_scheme.specs.declared.flow.HeadPair.{HeadPair}

pub record IsStartBy {X : Type 0} (at : X → ℕ) (xs : List X) (point n : ℕ) : Type 0 where
  pub within : n ≤ length xs
  pub before : (k : ℕ) (d : X) → k < n → at (slice_index_or xs k d) < point
  pub behind : (k : ℕ) (d : X) → n ≤ k → k < length xs → point ≤ at (slice_index_or xs k d)

pub record AreStartsBy {X : Type 0} (at : X → ℕ) (xs : List X) (starts : List ℕ) : Type 0 where
  pub each : (point d : ℕ) → point < length starts → IsStartBy at xs point (slice_index_or starts point d)
  pub within : (x : X) → Contains xs x → at x + 1 < length starts

abbrev pub AreHeadStarts : List HeadPair → List ℕ → Type 0
AreHeadStarts heads starts = AreStartsBy (λ (h : HeadPair). h.point) heads starts

abbrev pub IsEmptyAt : List ℕ → ℕ → Type 0
IsEmptyAt starts point = point + 1 < length starts → slice_index_or starts point 0 ≡ slice_index_or starts (point + 1) 0
