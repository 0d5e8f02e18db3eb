-- What one worker does alone.
--     work_left       how many works can still be done: it falls with each work that is done
--     GoesAlone       this worker alone did some steps
--     EndsAtRest      nothing is left to do, or no work is given out any more
--     IsNextSeed      the seed of the point is the work that is given out next
--     passed_by       a core once the worker has taken the seed of the point and closed it
--     Closes          the work under a ticket is closed, or given back
use Rattle.std.specs.Prelude.{◌≡◌, ℕ, ◌+◌, ◌-◌, ◌*◌, ◌∷◌, ◌++◌, List, length, Bool, true, false, None, Contains, Result, Ok, Err}
use Rattle.hs_table.specs.Follows.{FollowsBy}
use Rattle.hs_types.specs.Interned.{IsRow, entry_of}
use Rattle.hs_rules.specs.Conclusions.{DeducedData}
use Rattle.hs_history.specs.declared.step.Work.{Work}
use Rattle.hs_history.specs.declared.step.Work.TheVariants.{Seed}
use Rattle.hs_history.specs.Story.{takes, finishes, gives_back, Story}
use Rattle.hs_history.specs.CoreStep.{GoesOn}
use Rattle.hs_history.specs.History.{IsAtRest}
use Rattle.hs_core.specs.Core.{CoreData, state_of, log_of, stepped}
use Rattle.hs_core.specs.Answers.{AreOfWorker}

abbrev pub work_left : CoreData → ℕ
work_left c = 2 * (c.base.budget - length (log_of c)) + length (state_of c).pending

pub record GoesAlone (worker : ℕ) (old new : CoreData) : Type 0 where
  pub base : new.base ≡ old.base
  pub more : Story
  pub story : new.story ≡ old.story ++ more
  pub alone : AreOfWorker worker more

abbrev pub SameFlight : CoreData → CoreData → Type 0
SameFlight old new = (ticket : ℕ) → (state_of new).flight ticket ≡ (state_of old).flight ticket

abbrev pub NothingFlies : CoreData → Type 0
NothingFlies c = (ticket : ℕ) → (state_of c).flight ticket ≡ None

-- the deduction may be published
pub record IsReady (c : CoreData) (d : DeducedData) : Type 0 where
  pub row : IsRow c.ids d.row
  pub follows : FollowsBy c.base.problem (log_of c) d.support (entry_of c.ids d.row)

-- its entry is in the log
abbrev pub IsThere : CoreData → DeducedData → Type 0
IsThere c d = Contains (log_of c) (entry_of c.ids d.row)

abbrev pub EndsAtRest : CoreData → Type 0
EndsAtRest c = (state_of c).kept ≡ None → GoesOn c.base (log_of c) → IsAtRest (state_of c)

-- works are given out, and the seed of the point is the first one
pub record IsNextSeed (c : CoreData) (point : ℕ) : Type 0 where
  pub none_kept : (state_of c).kept ≡ None
  pub goes_on : GoesOn c.base (log_of c)
  pub rest : List Work
  pub pending : (state_of c).pending ≡ Seed point ∷ rest

abbrev pub passed_by : CoreData → ℕ → ℕ → ℕ → CoreData
passed_by c worker point spare = stepped (stepped c worker (takes (Seed point) 0) spare) worker (finishes 0) spare

abbrev pub Closes : {E : Type 0} → CoreData → ℕ → ℕ → Result Bool E → CoreData → Type 0
Closes old worker ticket (Ok true) new = new ≡ stepped old worker (finishes ticket) old.spare
Closes old worker ticket (Ok false) new = new ≡ stepped old worker (gives_back ticket) old.spare
Closes old worker ticket (Err e) new = new ≡ stepped old worker (gives_back ticket) old.spare
