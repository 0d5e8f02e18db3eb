-- the states so far
use Rattle.std.proofs.Common.{◌≡◌}
use Rattle.hs_table_plain.specs.Enumeration as plain
use Rattle.hs_table_plain.proofs.heads.terminal_types.Given as goal

abbrev pub invariant-loop-q : goal.invariant-loop-q
invariant-loop-q l = l.out.items ≡ plain.terminal_types l.problem l.terminal l.q
