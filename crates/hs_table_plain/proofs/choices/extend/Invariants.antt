-- the candidates so far
use Rattle.std.proofs.Common.{◌≡◌, ◌++◌, take}
use Rattle.std.specs.List.{flat_map}
use Rattle.hs_table_plain.specs.Enumeration as plain
use Rattle.hs_table_plain.proofs.choices.extend.Given as goal

abbrev pub invariant-loop-candidate : goal.invariant-loop-candidate
invariant-loop-candidate l = l.out.items ≡ l.initial.out.items ++ flat_map (plain.extended l.arg l.ty l.entry) (take l.candidate-index l.log)
