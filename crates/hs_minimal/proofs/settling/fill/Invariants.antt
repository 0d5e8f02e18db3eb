-- the table grows each time, up to one entry more than are allowed
use Rattle.std.proofs.Common.{◌-◌, ◌+◌, length}
use Rattle.hs_minimal.specs.Growing.{IsGrowing, IsGrownFrom}
use Rattle.hs_minimal.proofs.settling.fill.Given as goal

abbrev pub invariant-loop-growing : goal.invariant-loop-growing
invariant-loop-growing l = record {
  growing : IsGrowing l.types l.growing;
  grown : IsGrownFrom l.fn.types l.types l.fn.growing l.growing;
}

abbrev pub decreases-loop-growing : goal.decreases-loop-growing
decreases-loop-growing l = l.fn.growing.budget + 2 - length l.growing.history
