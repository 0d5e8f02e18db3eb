-- each weakly follows so far, and that of each row so far is there
use Rattle.std.proofs.Common.{take, Contains}
use Rattle.hs_types.specs.Interned.{RowData, Grows}
use Rattle.hs_minimal.specs.Following.{AreFollowingAt, KeepsEntries, HasByRow}
use Rattle.hs_minimal.proofs.children.add_by_children.Given as goal

abbrev pub invariant-loop-row : goal.invariant-loop-row
invariant-loop-row l = record {
  grows : Grows l.fn.types l.types;
  found : AreFollowingAt l.types l.growing l.point l.found.items;
  keeps : KeepsEntries l.fn.types l.types l.fn.found.items l.found.items;
  told : (r : RowData) → Contains (take l.row-index l.rows) r → HasByRow l.growing.problem l.fn.types l.types l.found.items l.point l.terminal l.place r;
}
