-- so far the points are settled, unless something was added
use Rattle.hs_minimal.specs.Growing.{IsGrowing, IsGrownFrom}
use Rattle.hs_minimal.proofs.SettlingLemmas.{SettledBelow}
use Rattle.hs_minimal.proofs.settling.settle_each.Given as goal

abbrev pub invariant-loop-point : goal.invariant-loop-point
invariant-loop-point l = record {
  growing : IsGrowing l.types l.growing;
  grown : IsGrownFrom l.fn.types l.types l.fn.growing l.growing;
  settled : SettledBelow l.types l.fn.growing l.growing l.point;
}
