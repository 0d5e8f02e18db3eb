-- what follows at the dependents so far was gathered
use Rattle.std.proofs.Common.{ℕ, ◌<◌, get_or}
use Rattle.hs_core.specs.Core.{log_of}
use Rattle.hs_rank.specs.Following.{HasAtBy}
use Rattle.hs_rank.specs.Gathering.{IsKnown, Gathered}
use Rattle.hs_canonical.proofs.Kept.{Kept}
use Rattle.hs_canonical.proofs.gathering.gather_place.Given as goal

abbrev pub invariant-loop-dependent : goal.invariant-loop-dependent
invariant-loop-dependent l = record {
  kept : Kept l.fn.core l.core;
  gathered : Gathered l.fn.core.base.problem (log_of l.fn.core) l.fn.core.ids l.fn.fresh.list.items l.core.ids l.fresh.list.items;
  all : (k : ℕ) → k < l.dependent-index → HasAtBy l.fn.core.base.problem (log_of l.fn.core) l.place (get_or l.dependent-items k 0) (IsKnown l.core.ids (log_of l.fn.core) l.fresh.list.items);
}
