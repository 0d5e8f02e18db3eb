-- the values that the entries so far give to the names
use Rattle.std.proofs.Common.{◌≡◌, ◌++◌, map, List, ℕ}
use Rattle.hs_resolve.proofs.Values.{Name, value_by}
use Rattle.hs_resolve.proofs.name_index.values_of.Given as goal

abbrev pub invariant-loop-name : goal.invariant-loop-name
invariant-loop-name l =
    (done : List (Name × ℕ)) × (l.table.entries ≡ done ++ l.name-iterator) × (l.values.items ≡ map (value_by done) l.names.keys)
