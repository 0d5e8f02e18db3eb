-- the sets so far
use Rattle.std.proofs.Common.{◌≡◌, [], replicate}
use Rattle.hs_table.proofs.making.empty_sets.Given as goal

abbrev pub invariant-loop : goal.invariant-loop
invariant-loop l = l.sets.items ≡ replicate l.counter []
