-- the children so far
use Rattle.std.proofs.Common.{◌≡◌, ◌++◌}
use Rattle.hs_table_plain.specs.Enumeration as plain
use Rattle.hs_table_plain.proofs.heads.child_types.Given as goal

abbrev pub invariant-loop-place : goal.invariant-loop-place
invariant-loop-place l = l.out.items ≡ l.initial.out.items ++ plain.child_types l.to l.q l.place
