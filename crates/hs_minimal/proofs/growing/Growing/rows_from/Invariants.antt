-- those so far were added
use Rattle.hs_minimal.specs.Growing.{AreAdded}
use Rattle.hs_minimal.proofs.growing.Growing.rows_from.Given as goal

abbrev pub invariant-loop-own : goal.invariant-loop-own
invariant-loop-own l = AreAdded l.self l.rows.items
