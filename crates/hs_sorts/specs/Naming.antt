-- The names of the parameters that short rules get: `~1` to `~d`. No name of a file has the byte `~`.
use Rattle.std.specs.Prelude.{ℕ, zero, suc, List, [], ◌∷◌, ◌++◌, length, codes, decimal}
use Rattle.hs_scheme.specs.Names.{NamesData}
use Rattle.hs_scheme.specs.sorting.Sorting.{SortTree}
use Rattle.hs_scheme.specs.sorting.Lengthening.{missing}

-- the name of the j-th of them, counted from 1
abbrev pub added_name : ℕ → List ℕ
added_name j = codes "~" ++ decimal j

abbrev pub added_names : ℕ → List (List ℕ)
added_names zero = []
added_names (suc d) = added_names d ++ added_name (suc d) ∷ []

-- the names of each rule's parameters, with those of the further ones at their end
abbrev pub lengthened_params : List (List (List ℕ)) → List SortTree → List (List (List ℕ))
lengthened_params [] ks = []
lengthened_params (ns ∷ params) [] = ns ∷ params
lengthened_params (ns ∷ params) (k ∷ ks) = (ns ++ added_names (missing (length ns) k)) ∷ lengthened_params params ks

abbrev pub lengthened_names : NamesData → List SortTree → NamesData
lengthened_names names ks = record { rules = names.rules; params = lengthened_params names.params ks; terminals = names.terminals; states = names.states }
