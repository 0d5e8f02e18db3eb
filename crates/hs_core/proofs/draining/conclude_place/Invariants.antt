-- what follows at the dependents so far is in the log
use Rattle.std.proofs.Common.{ℕ, ◌<◌, get_or}
use Rattle.hs_core.specs.Core.{log_of}
use Rattle.hs_core.proofs.Moving.{Moves, HasAllThatFollow}
use Rattle.hs_core.proofs.draining.conclude_place.Given as goal

abbrev pub invariant-loop-dependent : goal.invariant-loop-dependent
invariant-loop-dependent l = record {
  moves : Moves l.worker l.fn.core l.core;
  all : (k : ℕ) → k < l.dependent-index → HasAllThatFollow l.fn.core.base.problem (log_of l.fn.core) l.place (get_or l.dependent-items k 0) (log_of l.core);
}
