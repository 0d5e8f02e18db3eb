-- Flags that are cleared.
--     count_true flags     how many are set
use Rattle.std.specs.Prelude.{ℕ, ◌+◌, Bool, List, [], ◌∷◌, if◌then◌else◌}

abbrev pub count_true : List Bool → ℕ
count_true [] = 0
count_true (b ∷ flags) = (if b then 1 else 0) + count_true flags
