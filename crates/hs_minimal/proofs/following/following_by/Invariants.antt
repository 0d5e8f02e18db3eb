-- what follows by the types so far
use Rattle.hs_types.specs.Interned.{Grows}
use Rattle.hs_minimal.proofs.FollowingLemmas.{SoFar}
use Rattle.std.proofs.Common.{take}
use Rattle.hs_minimal.proofs.following.following_by.Given as goal

abbrev pub invariant-loop-head : goal.invariant-loop-head
invariant-loop-head l = record {
  grows : Grows l.fn.types l.types;
  so_far : SoFar l.problem l.point l.fn.types l.rows l.heads l.types (take l.head-index l.heads) l.found.items;
}
