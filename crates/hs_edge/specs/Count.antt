-- Counts of a `u64`, which stand still at the end of the type.
use Rattle.std.specs.Prelude.{ℕ, ◌+◌, ◌-◌, ◌^◌, ◌<◌, List, min, Contains}

-- the count went up, unless it stands at the end, where it can't
abbrev pub Rose : ℕ → ℕ → Type 0
Rose before now = now < 2 ^ 64 - 1 → before < now

-- the count after one more
abbrev pub one_more : ℕ → ℕ
one_more count = min (count + 1) (2 ^ 64 - 1)

-- after so many calls, the next one is among those that fail, whose numbers count from 1
abbrev pub NextFails : List ℕ → ℕ → Type 0
NextFails failing calls = Contains failing (one_more calls)
