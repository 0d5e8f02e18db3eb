-- nothing was published yet
use Rattle.std.proofs.Common.{length}
use Rattle.hs_core.specs.Waiting.{Waits}
use Rattle.hs_core.specs.Selecting.{IsStill}
use Rattle.hs_core.proofs.selecting.publish_next.Given as goal

abbrev pub invariant-loop-deduced : goal.invariant-loop-deduced
invariant-loop-deduced l = IsStill l.worker l.fn.core l.core (Waits l.waiting.found) l.ticket

abbrev pub decreases-loop-deduced : goal.decreases-loop-deduced
decreases-loop-deduced l = length l.waiting.found.entries
