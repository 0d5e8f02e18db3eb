-- Works whose conclusions wait.
--     AreReady c W               what waits may be published
--     AreOwn, AreFormedWorks     the works in flight are the worker's; what follows by them is in the log or waits
--     IsSelecting                what holds between turns
--     AreClosed                  what follows by the works in flight is in the log
--     IsSurplus                  conclusions that may be published, each once, more than the budget
--     IsEnded, IsIdleCore        no work is given out any more; nothing is pending or kept
--     IsStill, IsSpent           nothing was published; nothing waits, either
--     After done progress ..     what a turn leaves, by what came of it
--     EndsAs                     works were closed, or given back
use Rattle.std.specs.Prelude.{◌≡◌, ◌≢◌, ℕ, ◌<◌, Bool, List, [], length, All, AllPairs, Some, None, IsTrue}
use Rattle.hs_rules.specs.Conclusions.{DeducedData}
use Rattle.hs_history.specs.declared.step.Work.{Work}
use Rattle.hs_history.specs.declared.step.Flight.{Flight}
use Rattle.hs_history.specs.CoreStep.{GoesOn, Holds, IsClosedWork}
use Rattle.hs_history.specs.History.{IsWork}
use Rattle.hs_history.specs.Following.{HasWork}
use Rattle.hs_core.specs.declared.selecting.Progress.{Progress}
use Rattle.hs_core.specs.declared.selecting.Progress.TheVariants.{More, Done, Ended}
use Rattle.hs_core.specs.Core.{CoreData, state_of, log_of}
use Rattle.hs_core.specs.Draining.{work_left, IsReady}
use Rattle.hs_core.specs.Waiting.{IsThereOrWaits}

abbrev pub AreReady : CoreData → (DeducedData → Type 0) → Type 0
AreReady c W = (d : DeducedData) → W d → IsReady c d

abbrev pub AreOwn : ℕ → CoreData → Type 0
AreOwn worker c = (ticket : ℕ) (f : Flight) → (state_of c).flight ticket ≡ Some f → f.worker ≡ worker

pub record IsFormedWork (c : CoreData) (W : DeducedData → Type 0) (work : Work) : Type 0 where
  pub is_work : IsWork c.base.problem (log_of c) work
  pub all : HasWork c.base.problem (log_of c) work (IsThereOrWaits c.ids (log_of c) W)

abbrev pub AreFormedWorks : CoreData → (DeducedData → Type 0) → Type 0
AreFormedWorks c W = (ticket : ℕ) (f : Flight) → (state_of c).flight ticket ≡ Some f → IsFormedWork c W f.work

-- the worker holds the last ticket, where any conclusions wait
pub record IsSelecting (worker : ℕ) (c : CoreData) (W : DeducedData → Type 0) (last : ℕ) : Type 0 where
  pub own : AreOwn worker c
  pub ready : AreReady c W
  pub formed : AreFormedWorks c W
  pub holds : (d : DeducedData) → W d → Holds (state_of c) worker last

abbrev pub AreClosed : CoreData → Type 0
AreClosed c = (ticket : ℕ) (f : Flight) → (state_of c).flight ticket ≡ Some f → IsClosedWork c.base.problem (log_of c) f.work

pub record IsSurplus (c : CoreData) (found : List DeducedData) : Type 0 where
  pub ready : All (IsReady c) found
  pub once : AllPairs (λ a b. a.row ≢ b.row) found
  pub many : c.base.budget < length found

abbrev pub IsEnded : CoreData → Type 0
IsEnded c = (state_of c).kept ≡ None → GoesOn c.base (log_of c) → ⊥

pub record IsIdleCore (c : CoreData) : Type 0 where
  pub pending : (state_of c).pending ≡ []
  pub kept : (state_of c).kept ≡ None

-- nothing was published; and nothing waits
pub record IsStill (worker : ℕ) (old new : CoreData) (W : DeducedData → Type 0) (last : ℕ) : Type 0 where
  pub same : new ≡ old
  pub selecting : IsSelecting worker new W last

pub record IsSpent (worker : ℕ) (old new : CoreData) (W : DeducedData → Type 0) (last : ℕ) : Type 0 where
  pub still : IsStill worker old new W last
  pub none : (d : DeducedData) → W d → ⊥

-- less is left to do; or this; or no work is given out any more
abbrev pub After : Type 0 → Progress → ℕ → CoreData → CoreData → (DeducedData → Type 0) → ℕ → Type 0
After done More worker old new W last = (work_left new < work_left old) × IsSelecting worker new W last
After done Done worker old new W last = done
After done Ended worker old new W last = IsEnded new

pub record EndsAs (closed : Bool) (old new : CoreData) : Type 0 where
  pub log : log_of new ≡ log_of old
  pub kept : (state_of new).kept ≡ (state_of old).kept
  pub pending : IsTrue closed → (state_of new).pending ≡ (state_of old).pending
