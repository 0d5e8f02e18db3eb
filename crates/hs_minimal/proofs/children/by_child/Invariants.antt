-- each weakly follows so far
use Rattle.hs_types.specs.Interned.{Grows}
use Rattle.hs_minimal.specs.Following.{AreFollowingAt}
use Rattle.hs_minimal.proofs.children.by_child.Given as goal

abbrev pub invariant-loop-place : goal.invariant-loop-place
invariant-loop-place l = record {
  grows : Grows l.fn.types l.types;
  found : AreFollowingAt l.types l.growing l.point l.found.items;
}
