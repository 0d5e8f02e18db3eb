-- so far none of them is the row
use Rattle.std.proofs.Common.{take, Contains}
use Rattle.hs_minimal.proofs.covered.has_row.Given as goal

abbrev pub invariant-loop-own : goal.invariant-loop-own
invariant-loop-own l = Contains (take l.own-index l.rows) l.row → ⊥
