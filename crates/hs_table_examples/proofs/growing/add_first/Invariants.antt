-- nothing is added so far
use Rattle.std.proofs.Common.{◌≡◌}
use Rattle.hs_table_examples.proofs.growing.add_first.Given as goal

abbrev pub invariant-loop-deduced : goal.invariant-loop-deduced
invariant-loop-deduced l = l.replica ≡ l.fn.replica
