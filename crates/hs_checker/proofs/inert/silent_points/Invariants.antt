-- the points so far
use Rattle.std.proofs.Common.{◌≡◌, length, ◌≤◌, vec_capacity}
use Rattle.hs_types.specs.Interned.{InternerData}
use Rattle.hs_checker.specs.Numbers.{entries_of}
use Rattle.hs_checker.specs.Inert.{AreSilent}
use Rattle.hs_checker.proofs.inert.silent_points.Given as goal

abbrev pub invariant-loop-point : goal.invariant-loop-point
invariant-loop-point l = record {
  long : length l.marks.items ≡ l.point;
  silent : (I : InternerData) → AreSilent l.heads (entries_of I l.index) l.marks.items;
  room : l.points ≤ vec_capacity l.marks;
}
