-- none is at the points so far
use Rattle.std.proofs.Common.{take}
use Rattle.hs_certificate_checker.specs.Idle.{HaveNoRows}
use Rattle.hs_certificate_checker.proofs.idle.have_no_rows.Given as goal

abbrev pub invariant-loop-point : goal.invariant-loop-point
invariant-loop-point l = HaveNoRows l.table (take l.point-index l.points)
