-- each weakly follows so far, and that of each state so far is there
use Rattle.std.proofs.Common.{ℕ, take, Contains}
use Rattle.hs_types.specs.Interned.{env_of_id, Grows}
use Rattle.hs_minimal.specs.Following.{AreFollowingAt, HasEntry, KeepsEntries, rejected_in}
use Rattle.hs_minimal.proofs.children.add_by_child.Given as goal

abbrev pub invariant-loop-from : goal.invariant-loop-from
invariant-loop-from l = record {
  grows : Grows l.fn.types l.types;
  found : AreFollowingAt l.types l.growing l.point l.found.items;
  keeps : KeepsEntries l.fn.types l.types l.fn.found.items l.found.items;
  told : (q : ℕ) → Contains (take l.from-index l.states) q → HasEntry l.types l.found.items (rejected_in l.point (env_of_id l.fn.types l.row.env) q);
}
