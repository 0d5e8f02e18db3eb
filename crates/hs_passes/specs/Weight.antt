-- The weight of a scheme, which passes lower.
--     weight     the number of its rules, and of their parameters
use Rattle.std.specs.Prelude.{ℕ, ◌+◌, length, sum_by}
use Rattle.hs_scheme.specs.declared.term.Rule.{Rule}
use Rattle.hs_scheme.specs.sorting.Sorted.{SortedData}

abbrev pub params_of : Rule → ℕ
params_of r = r.params

abbrev pub weight : SortedData → ℕ
weight s = length s.scheme.rules + sum_by params_of s.scheme.rules
