-- the names so far are added
use Rattle.std.proofs.Common.{◌≡◌, ◌++◌}
use Rattle.hs_sorts.specs.Naming.{added_names}
use Rattle.hs_sorts.proofs.lengthening.add_names.Given as goal

abbrev pub invariant-loop-number : goal.invariant-loop-number
invariant-loop-number l = l.names.items ≡ l.fn.names.items ++ added_names l.number
