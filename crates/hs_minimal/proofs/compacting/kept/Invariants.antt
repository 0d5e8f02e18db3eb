-- those of the entries so far
use Rattle.std.proofs.Common.{take}
use Rattle.hs_minimal.specs.Growing.{AreKept}
use Rattle.hs_minimal.proofs.compacting.kept.Given as goal

abbrev pub invariant-loop-row : goal.invariant-loop-row
invariant-loop-row l = AreKept l.types l.growing (take l.row-index l.growing.history) l.kept.items
