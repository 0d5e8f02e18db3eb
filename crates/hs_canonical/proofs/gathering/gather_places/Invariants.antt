-- what follows by the places so far was gathered
use Rattle.std.proofs.Common.{ℕ, ◌<◌, ◌≤◌}
use Rattle.hs_core.specs.Core.{log_of}
use Rattle.hs_rank.specs.Following.{HasPlaceBy}
use Rattle.hs_rank.specs.Gathering.{IsKnown, Gathered}
use Rattle.hs_canonical.proofs.Kept.{Kept}
use Rattle.hs_canonical.proofs.gathering.gather_places.Given as goal

abbrev pub invariant-loop-place : goal.invariant-loop-place
invariant-loop-place l = record {
  kept : Kept l.fn.core l.core;
  gathered : Gathered l.fn.core.base.problem (log_of l.fn.core) l.fn.core.ids l.fn.fresh.list.items l.core.ids l.fresh.list.items;
  all : (k : ℕ) → l.fn.from ≤ k → k < l.place → HasPlaceBy l.fn.core.base.problem (log_of l.fn.core) k (IsKnown l.core.ids (log_of l.fn.core) l.fresh.list.items);
}
