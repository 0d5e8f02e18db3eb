-- What saturation by workers answers.
--     IsShared          a core for this, in which these many workers did everything, numbered from 1
--     IsSharedDone      of a new core
--     IsEnd             what has come of a core
--     IsDoneOf          what is answered of it
use Rattle.std.specs.Prelude.{◌≡◌, ℕ, ◌≤◌, All}
use Rattle.hs_history.specs.Story.{Base, CoreStep}
use Rattle.hs_core.specs.declared.answers.Done.{Done}
use Rattle.hs_core.specs.declared.answers.Done.TheVariants.{Least, Over, First}
use Rattle.hs_core.specs.Core.{CoreData}
use Rattle.hs_core.specs.Answers.{IsLeastAnswer, IsOverAnswer, IsFirstAnswer}
use Rattle.hs_workers.specs.declared.saturating.End.{End}
use Rattle.hs_workers.specs.declared.saturating.End.TheVariants.{Least as AtRest, Over as PastBudget, First as Found}

-- no step is of worker 0, nor of one past the last
abbrev pub IsOfWorkers : ℕ → CoreStep → Type 0
IsOfWorkers workers s = (1 ≤ s.worker) × (s.worker ≤ workers)

pub record IsShared (base : Base) (workers : ℕ) (c : CoreData) : Type 0 where
  pub same : c.base ≡ base
  pub by : All (IsOfWorkers workers) c.story

abbrev pub IsSharedDone : Base → ℕ → Done → Type 0
IsSharedDone base workers (Least c) = IsShared base workers c × IsLeastAnswer c
IsSharedDone base workers (Over c) = IsShared base workers c × IsOverAnswer c
IsSharedDone base workers (First c) = IsShared base workers c × IsFirstAnswer c

abbrev pub IsEnd : CoreData → End → Type 0
IsEnd c AtRest = IsLeastAnswer c
IsEnd c PastBudget = IsOverAnswer c
IsEnd c Found = IsFirstAnswer c

abbrev pub IsDoneOf : CoreData → Done → Type 0
IsDoneOf c (Least d) = (d ≡ c) × IsLeastAnswer c
IsDoneOf c (Over d) = (d ≡ c) × IsOverAnswer c
IsDoneOf c (First d) = (d ≡ c) × IsFirstAnswer c
