-- the entries so far
use Rattle.std.proofs.Common.{◌≡◌, take}
use Rattle.std.specs.List.{flat_map}
use Rattle.hs_table_plain.specs.Enumeration as plain
use Rattle.hs_table_plain.proofs.choices.extended.Given as goal

abbrev pub invariant-loop-entry : goal.invariant-loop-entry
invariant-loop-entry l = l.out.items ≡ flat_map (λ e. flat_map (plain.extended l.arg l.ty e) l.log) (take l.entry-index l.entries)
