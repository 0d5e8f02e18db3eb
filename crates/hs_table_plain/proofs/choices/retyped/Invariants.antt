-- the entries so far
use Rattle.std.proofs.Common.{◌≡◌, map, take}
use Rattle.hs_table_plain.specs.Enumeration as plain
use Rattle.hs_table_plain.proofs.choices.retyped.Given as goal

abbrev pub invariant-loop-entry : goal.invariant-loop-entry
invariant-loop-entry l = l.out.items ≡ map (plain.retyped l.ty) (take l.entry-index l.entries)
