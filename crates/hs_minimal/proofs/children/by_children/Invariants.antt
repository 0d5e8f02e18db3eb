-- each weakly follows so far, and that of each row at the arguments so far is there
use Rattle.std.proofs.Common.{ℕ, ◌<◌, get_or, Contains}
use Rattle.hs_scheme.specs.flow.Points.{point_at}
use Rattle.hs_types.specs.Interned.{RowData, Grows}
use Rattle.hs_reads.specs.Lists.{list_of}
use Rattle.hs_minimal.specs.Following.{AreFollowingAt, HasByRow, HasLacking}
use Rattle.hs_minimal.proofs.children.by_children.Given as goal

abbrev pub invariant-loop-place : goal.invariant-loop-place
invariant-loop-place l = record {
  grows : Grows l.fn.types l.types;
  found : AreFollowingAt l.types l.growing l.point l.found.items;
  lacking : (q : ℕ) → q < l.growing.problem.sorted.automaton.states → HasLacking l.growing.problem l.types l.found.items l.point l.terminal q;
  told : (k : ℕ) → k < l.place → (row : RowData) → Contains (list_of l.growing.rows (get_or (point_at l.growing.problem.points l.point).args k 0)) row → HasByRow l.growing.problem l.fn.types l.types l.found.items l.point l.terminal k row;
}
