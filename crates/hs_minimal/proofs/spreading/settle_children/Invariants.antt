-- the table has only grown
use Rattle.hs_minimal.specs.Growing.{IsGrowing, IsGrownFrom}
use Rattle.hs_minimal.proofs.spreading.settle_children.Given as goal

abbrev pub invariant-loop-row : goal.invariant-loop-row
invariant-loop-row l = record {
  growing : IsGrowing l.types l.growing;
  grown : IsGrownFrom l.fn.types l.types l.fn.growing l.growing;
}
