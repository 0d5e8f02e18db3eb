-- so far all are covered, unless something was added
use Rattle.std.proofs.Common.{◌≡◌, take}
use Rattle.hs_minimal.specs.Growing.{IsGrowing, IsGrownFrom}
use Rattle.hs_minimal.proofs.SettlingLemmas.{NoneSoFar}
use Rattle.hs_minimal.proofs.settling.add_rows.Given as goal

abbrev pub invariant-loop-row : goal.invariant-loop-row
invariant-loop-row l = record {
  same : l.types ≡ l.fn.types;
  growing : IsGrowing l.types l.growing;
  grown : IsGrownFrom l.fn.types l.types l.fn.growing l.growing;
  none : NoneSoFar l.fn.types l.fn.growing l.growing (take l.row-index l.rows);
}
