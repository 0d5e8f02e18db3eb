-- it isn't among the entries so far
use Rattle.std.proofs.Common.{take, Contains}
use Rattle.hs_table_plain.proofs.union.contains.Given as goal

abbrev pub invariant-loop-other : goal.invariant-loop-other
invariant-loop-other l = Contains (take l.other-index l.entries) l.entry → ⊥
