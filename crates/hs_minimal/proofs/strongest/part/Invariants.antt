-- those so far are parted
use Rattle.std.proofs.Common.{take}
use Rattle.hs_strength.specs.Remembered.{Remembers}
use Rattle.hs_minimal.specs.Strongest.{AreParted}
use Rattle.hs_minimal.proofs.strongest.part.Given as goal

abbrev pub invariant-loop-row : goal.invariant-loop-row
invariant-loop-row l = record {
  memo : Remembers l.types l.strengths;
  parted : AreParted l.types l.filed (take l.row-index l.rows) l.kept.items l.covered.items;
}
