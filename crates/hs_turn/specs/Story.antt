-- Stories, and what of them a seat told.
use Rattle.std.specs.Prelude.{ℕ, ◌==◌, leb, cond, List, length, filter}

module _ {E : Type 0} where
  -- the events of a story that bear the number n
  abbrev pub told_by : (E → ℕ) → ℕ → List E → List E
  told_by number n story = filter (λ e. number e == n) story

  -- the longer of two lists, the second where both have one length; and the other one
  abbrev pub longer : List E → List E → List E
  longer xs ys = cond (leb (length xs) (length ys)) ys xs

  abbrev pub shorter : List E → List E → List E
  shorter xs ys = cond (leb (length xs) (length ys)) xs ys
