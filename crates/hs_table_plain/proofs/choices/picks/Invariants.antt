-- what is left to choose for
use Rattle.std.proofs.Common.{◌≡◌, drop}
use Rattle.hs_table_plain.specs.Enumeration as plain
use Rattle.hs_table_plain.proofs.choices.picks.Given as goal

abbrev pub invariant-loop-ty : goal.invariant-loop-ty
invariant-loop-ty l = plain.picks l.log l.arg (drop l.ty-index l.set) l.found.items ≡ plain.picks l.log l.arg l.set l.initial.found.items
