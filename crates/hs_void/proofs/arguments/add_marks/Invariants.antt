-- the marks at the places so far are added
use Rattle.hs_void.proofs.Marked.{AreJoined}
use Rattle.hs_void.proofs.arguments.add_marks.Given as goal

abbrev pub invariant-loop-place : goal.invariant-loop-place
invariant-loop-place l = AreJoined l.place l.fn.marks.items l.others l.marks.items
