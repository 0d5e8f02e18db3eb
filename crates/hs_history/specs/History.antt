-- Histories: lists of core steps from the opening on.
--     state_after base story            the one state that a story leads to
--     IsLegal base story                each of its steps may come where it comes
--     told log supports kept journal    a journal read beside its log: the story that it tells
--     IsWork p log work                 the works that there are: the seeds of the points and the places of the log
--     IsInState s work                  the work is pending, in flight or closed; just once: IsJustOnce
--     HasClosed, IsPast, IsAtRest       what holds of closed works and of a kept entry; nothing is left to do
use Rattle.std.specs.Prelude.{◌≡◌, ◌≢◌, ℕ, ◌<◌, List, [], ◌∷◌, length, map, unwrap_or, slice_get, Option, Some, None, Contains, AllPairs, ◌⊎◌}
use Rattle.hs_scheme.specs.Problem.{ProblemData}
use Rattle.hs_table.specs.declared.support.HeadBy.TheVariants.{Rule}
use Rattle.hs_table.specs.Types.{state}
use Rattle.hs_table.specs.Entries.{EntryData}
use Rattle.hs_table.specs.Follows.{Support, FollowsBy}
use Rattle.hs_table.specs.Tables.{Exceeds}
use Rattle.hs_history.specs.declared.step.Work.{Work}
use Rattle.hs_history.specs.declared.step.Work.TheVariants.{Seed, Place}
use Rattle.hs_history.specs.declared.step.Event.{Event}
use Rattle.hs_history.specs.declared.step.Event.TheVariants.{Take, Added, PastBudget, Finish, GiveBack}
use Rattle.hs_history.specs.declared.step.Step.{Step}
use Rattle.hs_history.specs.Story.{Base, Deduction, Action, takes, adds, passes, finishes, gives_back, CoreStep, Story}
use Rattle.hs_history.specs.CoreStep.{State, opening, IsClosedWork, CanStep, after}

abbrev pub state_from : State → List CoreStep → State
state_from s [] = s
state_from s (step ∷ steps) = state_from (after s step) steps

abbrev pub IsLegalFrom : Base → State → List CoreStep → Type 0
IsLegalFrom base s [] = Unit {0}
IsLegalFrom base s (step ∷ steps) = CanStep base s step × IsLegalFrom base (after s step) steps

abbrev pub state_after : Base → Story → State
state_after base story = state_from (opening base) story

abbrev pub IsLegal : Base → Story → Type 0
IsLegal base story = IsLegalFrom base (opening base) story

-- what a look-up past the end gives; in a journal beside its log none does
abbrev pub no_entry : EntryData
no_entry = record { point = 0; env = []; ty = state 0 }

abbrev pub no_support : Support
no_support = record { head = Rule 0; args = [] }

abbrev pub no_deduction : Deduction
no_deduction = record { entry = no_entry; support = no_support }

abbrev pub deduction_at : List EntryData → List Support → ℕ → Deduction
deduction_at log supports place = record { entry = unwrap_or (slice_get log place) no_entry; support = unwrap_or (slice_get supports place) no_support }

abbrev pub action_told : List EntryData → List Support → Option Deduction → Event → Action
action_told log supports kept (Take work ticket) = takes work ticket
action_told log supports kept (Added ticket place) = adds ticket (deduction_at log supports place)
action_told log supports kept (PastBudget ticket) = passes ticket (unwrap_or kept no_deduction)
action_told log supports kept (Finish ticket) = finishes ticket
action_told log supports kept (GiveBack ticket) = gives_back ticket

abbrev pub step_told : List EntryData → List Support → Option Deduction → Step → CoreStep
step_told log supports kept s = record { worker = s.worker; action = action_told log supports kept s.event }

abbrev pub told : List EntryData → List Support → Option Deduction → List Step → List CoreStep
told log supports kept journal = map (step_told log supports kept) journal

abbrev pub IsWork : ProblemData → List EntryData → Work → Type 0
IsWork p log (Seed point) = point < length p.points.points
IsWork p log (Place i) = i < length log

-- a work of the state is pending, or in flight under a ticket, or closed
abbrev pub IsInFlight : State → Work → Type 0
IsInFlight s work = (ticket worker : ℕ) × (s.flight ticket ≡ Some (record { worker = worker; work = work }))

abbrev pub IsInState : State → Work → Type 0
IsInState s work = Contains s.pending work ⊎ (IsInFlight s work ⊎ Contains s.closed work)

-- closed works have left nothing out
abbrev pub HasClosed : ProblemData → State → Type 0
HasClosed p s = (work : Work) → Contains s.closed work → IsClosedWork p s.log work

-- no work is in two ways in the state
pub record IsJustOnce (s : State) : Type 0 where
  pub pending : AllPairs (λ v w. v ≢ w) s.pending
  pub closed : AllPairs (λ v w. v ≢ w) s.closed
  pub one_ticket : (ticket other worker holder : ℕ) (work : Work)
      → s.flight ticket ≡ Some (record { worker = worker; work = work }) → s.flight other ≡ Some (record { worker = holder; work = work }) → ticket ≡ other
  pub pending_or_flying : (work : Work) → Contains s.pending work → IsInFlight s work → ⊥
  pub pending_or_closed : (work : Work) → Contains s.pending work → Contains s.closed work → ⊥
  pub flying_or_closed : (work : Work) → IsInFlight s work → Contains s.closed work → ⊥

-- an entry past the budget
pub record IsPast (base : Base) (log : List EntryData) (d : Deduction) : Type 0 where
  pub full : length log ≡ base.budget
  pub new : Contains log d.entry → ⊥
  pub follows : FollowsBy base.problem log d.support d.entry
  pub exceeds : Exceeds base.problem base.budget

-- nothing is pending, in flight or kept
pub record IsAtRest (s : State) : Type 0 where
  pub pending : s.pending ≡ []
  pub flight : (ticket : ℕ) → s.flight ticket ≡ None
  pub kept : s.kept ≡ None
