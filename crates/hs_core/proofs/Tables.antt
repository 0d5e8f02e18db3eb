-- What holds of the log of each core: it is a supported table of entries in shape, within the budget.
use Rattle.std.proofs.Common.{◌≤◌, length, take, All}
use Rattle.std.specs.Prelude.{slice_index_or}
use Rattle.std.proofs.lemmas.List.Elements.{All-contains_itself}
use Rattle.hs_scheme.specs.acceptance.Automaton.{IsAutomaton}
use Rattle.hs_table.specs.Entries.{EntryData, InShape}
use Rattle.hs_table.specs.Tables.{IsSupportedTable, HasSupports}
use Rattle.hs_table_laws.proofs.Least.{supports_support}
use Rattle.hs_table_laws.proofs.Places.{place_of}
use Rattle.hs_table_laws.proofs.Shapes.{follows_shape}
use Rattle.hs_history.proofs.Histories.{holds_after}
use Rattle.hs_core.specs.Core.{CoreData, state_of, log_of, IsCore}

module _ (c : CoreData) (is : IsCore c) where
  pub core_supports : HasSupports c.base.problem (log_of c) (state_of c).supports
  core_supports = (holds_after c.base c.story is.legal).sound.supports

  pub core_within : length (log_of c) ≤ c.base.budget
  core_within = (holds_after c.base c.story is.legal).sound.within

  pub core_table : IsSupportedTable c.base.problem (log_of c)
  core_table = supports_support c.base.problem (log_of c) (state_of c).supports core_supports

  pub core_shape : IsAutomaton c.base.problem.sorted.automaton → All (InShape c.base.problem) (log_of c)
  core_shape automaton k d below =
      let e : EntryData = slice_index_or (log_of c) k d in
      let at = place_of (log_of c) e (All-contains_itself (log_of c) k d below) in
      follows_shape c.base.problem (take at.0 (log_of c)) automaton.to e (core_table.follows at.0 e at.1)
