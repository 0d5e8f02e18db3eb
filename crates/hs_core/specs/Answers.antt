-- What the answers of a core say of it before and after the call.
--     IsFound                                     only the start entry is sought, and it stands at this place
--     Takes, Publishes                            for each answer when it comes, and what has changed
--     IsLeastAnswer, IsOverAnswer, IsFirstAnswer  what the answers of saturation say
use Rattle.std.specs.Prelude.{◌≡◌, ℕ, ◌-◌, ◌<◌, true, [], length, slice_get, Option, Some, None, IsSome, Contains, All}
use Rattle.hs_table.specs.Tables.{IsLeastTable, Exceeds, HasStart}
use Rattle.hs_history.specs.declared.step.Flight.{Flight}
use Rattle.hs_history.specs.Story.{Deduction, takes, adds, passes, CoreStep, Story}
use Rattle.hs_history.specs.CoreStep.{GoesOn, CanTake}
use Rattle.hs_history.specs.History.{IsAtRest}
use Rattle.hs_core.specs.declared.answers.Taken.{Taken}
use Rattle.hs_core.specs.declared.answers.Taken.TheVariants.{Item, Quiet, Idle, Over, Found}
use Rattle.hs_core.specs.declared.answers.Published.{Published}
use Rattle.hs_core.specs.declared.answers.Published.TheVariants.{Known, Added, Over as NoRoom}
use Rattle.hs_core.specs.Core.{CoreData, state_of, log_of, stepped, StartsAt}

pub record IsFound (c : CoreData) (place : ℕ) : Type 0 where
  pub first : c.base.first ≡ true
  pub start : StartsAt c.base.problem (log_of c) place

-- nothing is pending, but something is in flight
pub record IsIdle (c : CoreData) : Type 0 where
  pub none_kept : (state_of c).kept ≡ None
  pub pending : (state_of c).pending ≡ []
  pub ticket : ℕ
  pub flown : Flight
  pub flight : (state_of c).flight ticket ≡ Some flown

abbrev pub Takes : CoreData → ℕ → Taken → CoreData → Type 0
Takes old worker (Found place) new = IsFound old place × (new ≡ old)
Takes old worker Over new = GoesOn old.base (log_of old) × IsSome (state_of old).kept × (new ≡ old)
Takes old worker (Item work ticket) new = CanTake old.base (state_of old) work ticket × (new ≡ stepped old worker (takes work ticket) (old.spare - 1))
Takes old worker Idle new = GoesOn old.base (log_of old) × IsIdle old × (new ≡ old)
Takes old worker Quiet new = GoesOn old.base (log_of old) × IsAtRest (state_of old) × (new ≡ old)

-- the first entry past the budget is kept, and a later one changes nothing
abbrev pub AddsOrPasses : CoreData → ℕ → ℕ → Deduction → CoreData → Option Deduction → Type 0
AddsOrPasses old worker ticket d new None = new ≡ stepped old worker (passes ticket d) (old.spare - 1)
AddsOrPasses old worker ticket d new (Some kept) = new ≡ old

abbrev pub Publishes : CoreData → ℕ → ℕ → Deduction → Published → CoreData → Type 0
Publishes old worker ticket d (Known place) new = (slice_get (log_of old) place ≡ Some d.entry) × (new ≡ old)
Publishes old worker ticket d (Added place) new =
    (Contains (log_of old) d.entry → ⊥) × (length (log_of old) < old.base.budget) × (place ≡ length (log_of old))
    × (new ≡ stepped old worker (adds ticket d) (old.spare - 1))
Publishes old worker ticket d NoRoom new =
    (Contains (log_of old) d.entry → ⊥) × (length (log_of old) ≡ old.base.budget) × AddsOrPasses old worker ticket d new (state_of old).kept

-- the log is the least table, within the budget; where only the start entry is sought it lacks it
pub record IsLeastAnswer (c : CoreData) : Type 0 where
  pub rest : IsAtRest (state_of c)
  pub least : IsLeastTable c.base.problem (log_of c)
  pub fits : Exceeds c.base.problem c.base.budget → ⊥
  pub goes_on : GoesOn c.base (log_of c)

-- the least table has more entries than the budget; the log has as many, and a further one is kept
pub record IsOverAnswer (c : CoreData) : Type 0 where
  pub kept : IsSome (state_of c).kept
  pub full : length (log_of c) ≡ c.base.budget
  pub exceeds : Exceeds c.base.problem c.base.budget
  pub goes_on : GoesOn c.base (log_of c)

-- only the start entry is sought, and the log has it
pub record IsFirstAnswer (c : CoreData) : Type 0 where
  pub first : c.base.first ≡ true
  pub start : HasStart c.base.problem (log_of c)

abbrev pub AreOfWorker : ℕ → Story → Type 0
AreOfWorker worker story = All (λ (s : CoreStep). s.worker ≡ worker) story
