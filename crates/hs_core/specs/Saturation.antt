-- What saturation answers.
--     IsDrained                  of a core that was drained
--     GivesBack, Drains          what draining adds to a story: all works in flight are given back, and then worker 0 does some steps
--     IsDone                     of a new core
--     IsVerdict                  what the core of a least answer says of the automaton
use Rattle.std.specs.Prelude.{◌≡◌, ◌↔◌, ℕ, ◌++◌, None, All}
use Rattle.hs_scheme.specs.Problem.{ProblemData}
use Rattle.hs_scheme.specs.acceptance.Run.{Accepts}
use Rattle.hs_table.specs.Tables.{HasStart}
use Rattle.hs_history.specs.Story.{Base, gives_back, CoreStep, Story}
use Rattle.hs_history.specs.History.{state_after}
use Rattle.hs_core.specs.declared.answers.Drained.{Drained}
use Rattle.hs_core.specs.declared.answers.Drained.TheVariants.{Quiet, Over as PastBudget, Found}
use Rattle.hs_core.specs.declared.answers.Done.{Done}
use Rattle.hs_core.specs.declared.answers.Done.TheVariants.{Least, Over, First}
use Rattle.hs_core.specs.Core.{CoreData, log_of}
use Rattle.hs_core.specs.Answers.{IsFound, IsLeastAnswer, IsOverAnswer, IsFirstAnswer, AreOfWorker}

abbrev pub IsDrained : CoreData → Drained → Type 0
IsDrained c Quiet = IsLeastAnswer c
IsDrained c PastBudget = IsOverAnswer c
IsDrained c (Found place) = IsFound c place

-- a worker gives back the work under a ticket, which is its own in a legal story
abbrev pub GivesBack : CoreStep → Type 0
GivesBack step = (ticket : ℕ) × (step.action ≡ gives_back ticket)

-- once works are given back, none is in flight, and the rest is done by worker 0
pub record Drains (base : Base) (old new : Story) : Type 0 where
  pub given_back : Story
  pub own : Story
  pub story : new ≡ old ++ (given_back ++ own)
  pub gives : All GivesBack given_back
  pub flight : (ticket : ℕ) → (state_after base (old ++ given_back)).flight ticket ≡ None
  pub alone : AreOfWorker 0 own

-- a core for this, in which worker 0 did everything
pub record IsAlone (base : Base) (c : CoreData) : Type 0 where
  pub same : c.base ≡ base
  pub alone : AreOfWorker 0 c.story

abbrev pub IsDone : Base → Done → Type 0
IsDone base (Least c) = IsAlone base c × IsLeastAnswer c
IsDone base (Over c) = IsAlone base c × IsOverAnswer c
IsDone base (First c) = IsAlone base c × IsFirstAnswer c

-- the automaton accepts the value tree exactly where the core's log lacks the start entry
abbrev pub IsVerdict : ProblemData → Done → Type 0
IsVerdict p (Least c) = Accepts p.sorted.scheme.rules p.sorted.automaton.transitions ↔ (HasStart p (log_of c) → ⊥)
IsVerdict p (Over c) = Unit {0}
IsVerdict p (First c) = Unit {0}
