-- The parameters of all rules in one numbering, from 0: those of rule 0 first, then those of rule 1, and so on. A list says how many
-- parameters each rule has.
--     IsParameter counts rule x      the rule has a parameter x, counted from 0
--     parameter_of counts rule x     its number
use Rattle.std.specs.Prelude.{◌≡◌, ℕ, ◌+◌, ◌^◌, ◌<◌, ◌≤◌, List, map, take, sum, length, slice_index}
use Rattle.hs_scheme.specs.declared.term.Rule.{Rule}

abbrev pub counts_of : List Rule → List ℕ
counts_of rules = map (λ r. r.params) rules

abbrev pub IsParameter : List ℕ → ℕ → ℕ → Type 0
IsParameter counts rule x = x < slice_index counts rule

abbrev pub parameter_of : List ℕ → ℕ → ℕ → ℕ
parameter_of counts rule x = sum (take rule counts) + x

-- firsts has the number of each rule's first parameter, and behind these how many parameters there are
pub record IsNumbering (counts firsts : List ℕ) : Type 0 where
  pub few : sum counts < 2 ^ 32
  pub long : length firsts ≡ length counts + 1
  pub each : (rule : ℕ) → rule ≤ length counts → slice_index firsts rule ≡ sum (take rule counts)
