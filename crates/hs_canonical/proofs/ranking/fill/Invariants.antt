-- some rounds are published, and what the last one began with rises
use Rattle.std.proofs.Common.{◌≡◌, ◌-◌}
use Rattle.hs_core.specs.Core.{log_of}
use Rattle.hs_rank.specs.Ranked.{IsAtRound}
use Rattle.hs_canonical.specs.Ranking.{IsRanking}
use Rattle.hs_canonical.proofs.ranking.fill.Given as goal

abbrev pub invariant-loop-from : goal.invariant-loop-from
invariant-loop-from l = record {
  base : l.core.base ≡ l.fn.core.base;
  at : IsAtRound l.fn.core.base.problem l.from (log_of l.core);
  ranking : IsRanking l.ticket l.core;
}

abbrev pub decreases-loop-from : goal.decreases-loop-from
decreases-loop-from l = l.fn.core.base.budget - l.from
