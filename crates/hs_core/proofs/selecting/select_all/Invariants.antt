-- less and less is left to do
use Rattle.hs_core.specs.Draining.{work_left, GoesAlone}
use Rattle.hs_core.specs.Waiting.{Waits}
use Rattle.hs_core.specs.Selecting.{IsSelecting}
use Rattle.hs_core.proofs.selecting.select_all.Given as goal

abbrev pub invariant-loop-progress : goal.invariant-loop-progress
invariant-loop-progress g l = record {
  goes : GoesAlone l.worker l.fn.core l.core;
  selecting : IsSelecting l.worker l.core (Waits l.waiting.found) l.last;
}

abbrev pub decreases-loop-progress : goal.decreases-loop-progress
decreases-loop-progress g l = work_left l.core
