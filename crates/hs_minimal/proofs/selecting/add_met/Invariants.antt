-- all were added, and nothing else has changed
use Rattle.std.proofs.Common.{◌≡◌}
use Rattle.hs_minimal.specs.Growing.{AreAdded}
use Rattle.hs_minimal.proofs.selecting.add_met.Given as goal

abbrev pub invariant-loop-row : goal.invariant-loop-row
invariant-loop-row l = record {
  same : l.types ≡ l.fn.types;
  added : AreAdded l.growing l.rows.items;
}
