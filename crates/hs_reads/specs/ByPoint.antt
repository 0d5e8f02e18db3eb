-- Pairs of a point and a state, by the point.
--     row_pairs point states     the pairs of the point with these states
--     pairs_by_point rows        those of all points, where a point's number is the place of its states
--     pairs_in rows points states     those that are listed, and all where none are listed
--     HasEvery rows states every      where none are listed all states are at hand
--     IsOneMore x old new        the new list has x somewhere, and else is the old one
use Rattle.std.specs.Prelude.{◌≡◌, ℕ, ◌+◌, ◌<◌, List, [], ◌∷◌, ◌++◌, Option, Some, None, Contains, ◌↔◌}
use Rattle.hs_reads.specs.Pairs.{all_pairs}

abbrev pub row_pairs : ℕ → List ℕ → List (ℕ × ℕ)
row_pairs point [] = []
row_pairs point (q ∷ states) = (point, q) ∷ row_pairs point states

-- of the points from this one on
abbrev pub pairs_from : ℕ → List (List ℕ) → List (ℕ × ℕ)
pairs_from point [] = []
pairs_from point (states ∷ rows) = row_pairs point states ++ pairs_from (point + 1) rows

abbrev pub pairs_by_point : List (List ℕ) → List (ℕ × ℕ)
pairs_by_point rows = pairs_from 0 rows

abbrev pub pairs_in : Option (List (List ℕ)) → ℕ → ℕ → List (ℕ × ℕ)
pairs_in (Some rows) points states = pairs_by_point rows
pairs_in None points states = all_pairs points states

abbrev pub HasEvery : Option (List (List ℕ)) → ℕ → List ℕ → Type 0
HasEvery (Some rows) states every = Unit
HasEvery None states every = (q : ℕ) → Contains every q ↔ q < states

pub record IsOneMore (x : ℕ × ℕ) (old new : List (ℕ × ℕ)) : Type 0 where
  pub before : List (ℕ × ℕ)
  pub behind : List (ℕ × ℕ)
  pub old_is : old ≡ before ++ behind
  pub new_is : new ≡ before ++ x ∷ behind
