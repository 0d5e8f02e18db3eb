-- the table has only grown, up to one entry more than are allowed
use Rattle.std.proofs.Common.{◌-◌, ◌+◌}
use Rattle.hs_minimal.specs.Growing.{IsGrowing, IsGrownFrom}
use Rattle.hs_minimal.proofs.spreading.spread.Given as goal

abbrev pub invariant-loop-place : goal.invariant-loop-place
invariant-loop-place l = record {
  growing : IsGrowing l.types l.growing;
  grown : IsGrownFrom l.fn.types l.types l.fn.growing l.growing;
}

abbrev pub decreases-loop-place : goal.decreases-loop-place
decreases-loop-place l = l.fn.growing.budget + 2 - l.place
