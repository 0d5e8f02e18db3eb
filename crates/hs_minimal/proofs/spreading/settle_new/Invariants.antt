-- the table has only grown
use Rattle.hs_minimal.specs.Growing.{IsGrowing, IsGrownFrom}
use Rattle.hs_minimal.proofs.spreading.settle_new.Given as goal

abbrev pub invariant-loop-point : goal.invariant-loop-point
invariant-loop-point l = record {
  growing : IsGrowing l.types l.growing;
  grown : IsGrownFrom l.fn.types l.types l.fn.growing l.growing;
}
