-- A core whose log is filled round by round under a ticket.
--     IsRanking ticket c   the ticket is in flight, the budget has room for the least table, and each entry has its least support
use Rattle.std.specs.Prelude.{ℕ}
use Rattle.hs_table.specs.Tables.{Exceeds}
use Rattle.hs_history.specs.CoreStep.{Holds}
use Rattle.hs_core.specs.Core.{CoreData, state_of, log_of}
use Rattle.hs_rank.specs.Ranked.{HaveLeastSupports}
use Rattle.hs_canonical.specs.declared.publishing.TheConstants.{WORKER}

pub record IsRanking (ticket : ℕ) (c : CoreData) : Type 0 where
  pub fits : Exceeds c.base.problem c.base.budget → ⊥
  pub holds : Holds (state_of c) WORKER ticket
  pub supports : HaveLeastSupports c.base.problem (log_of c) (state_of c).supports
