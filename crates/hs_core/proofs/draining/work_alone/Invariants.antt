-- the worker alone did what was done, and each turn leaves less to do
use Rattle.hs_core.specs.Draining.{work_left, GoesAlone, NothingFlies}
use Rattle.hs_core.proofs.draining.work_alone.Given as goal

abbrev pub invariant-loop-tally : goal.invariant-loop-tally
invariant-loop-tally g l = record {
  goes : GoesAlone l.worker l.fn.core l.core;
  flight : NothingFlies l.core;
}

abbrev pub decreases-loop-tally : goal.decreases-loop-tally
decreases-loop-tally g l = work_left l.core
