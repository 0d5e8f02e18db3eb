-- How a journal keeps steps in few bytes.
--     JournalData            what contracts see: the steps, and for how many more there is room
--     kind_of, ticket_of     what is done at an event, and under which ticket
--     due_for, due_after     what has to be due at an event; what is due after it
--     Reader                 who acts and what is due, with the changes of these that are still to come
--     taken_at, finished_at  the two steps of a seed that is taken and closed at once
--     step_at, beyond        the step that a mark stands for; the reader behind it
--     steps_read             the steps that marks stand for
--     IsJournalOf            the changes are just those that the marks name, and behind the last mark this is who acted and what is due
use Rattle.std.specs.Prelude.{◌≡◌, ℕ, ◌+◌, ◌-◌, ◌^◌, min, Bool, true, false, List, [], ◌∷◌}
use Rattle.hs_history.specs.declared.step.Work.{Work}
use Rattle.hs_history.specs.declared.step.Work.TheVariants.{Seed, Place}
use Rattle.hs_history.specs.declared.step.Step.{Step}
use Rattle.hs_history.specs.declared.step.Event.{Event}
use Rattle.hs_history.specs.declared.step.Event.TheVariants.{Take, Added, PastBudget, Finish, GiveBack}
use Rattle.hs_core.specs.declared.journal.Kind.{Kind}
use Rattle.hs_core.specs.declared.journal.Kind.TheVariants.{Taking, Adding, Passing, Finishing, GivingBack}
use Rattle.hs_core.specs.declared.journal.Actor.{Actor}
use Rattle.hs_core.specs.declared.journal.Due.{Due}
use Rattle.hs_core.specs.declared.journal.Mark.{Mark}

pub record JournalData : Type 0 where
  pub steps : List Step
  pub room : ℕ

-- the next number, or the greatest of 32 bits
abbrev pub following : ℕ → ℕ
following n = min (n + 1) (2 ^ 32 - 1)

abbrev pub work_after : Work → Work
work_after (Seed point) = Seed (following point)
work_after (Place i) = Place (following i)

abbrev pub due_after : Kind → Due → Due
due_after Taking due = record { work = work_after due.work; place = due.place }
due_after Adding due = record { work = due.work; place = following due.place }
due_after Passing due = due
due_after Finishing due = due
due_after GivingBack due = due

abbrev pub kind_of : Event → Kind
kind_of (Take work ticket) = Taking
kind_of (Added ticket place) = Adding
kind_of (PastBudget ticket) = Passing
kind_of (Finish ticket) = Finishing
kind_of (GiveBack ticket) = GivingBack

abbrev pub ticket_of : Event → ℕ
ticket_of (Take work ticket) = ticket
ticket_of (Added ticket place) = ticket
ticket_of (PastBudget ticket) = ticket
ticket_of (Finish ticket) = ticket
ticket_of (GiveBack ticket) = ticket

abbrev pub due_for : Event → Due → Due
due_for (Take work ticket) due = record { work = work; place = due.place }
due_for (Added ticket place) due = record { work = due.work; place = place }
due_for (PastBudget ticket) due = due
due_for (Finish ticket) due = due
due_for (GiveBack ticket) due = due

abbrev pub event_of : Kind → ℕ → Due → Event
event_of Taking ticket due = Take due.work ticket
event_of Adding ticket due = Added ticket due.place
event_of Passing ticket due = PastBudget ticket
event_of Finishing ticket due = Finish ticket
event_of GivingBack ticket due = GiveBack ticket

-- the first item of a list, where it is asked for and there is one; the items that are left; that there is one; a list of none or one
abbrev pub pick : {X : Type 0} → Bool → X → List X → X
pick true x [] = x
pick true x (y ∷ ys) = y
pick false x ys = x

abbrev pub left : {X : Type 0} → Bool → List X → List X
left true [] = []
left true (y ∷ ys) = ys
left false ys = ys

abbrev pub HasNext : {X : Type 0} → Bool → List X → Type 0
HasNext true [] = ⊥
HasNext true (y ∷ ys) = Unit {0}
HasNext false ys = Unit {0}

abbrev pub only : {X : Type 0} → Bool → X → List X
only true x = x ∷ []
only false x = []

pub record Reader : Type 0 where
  pub actor : Actor
  pub due : Due
  pub actors : List Actor
  pub dues : List Due

abbrev pub opened : List Actor → List Due → Reader
opened actors dues = record { actor = record { worker = 0; ticket = 0 }; due = record { work = Seed 0; place = 0 }; actors = actors; dues = dues }

abbrev pub step_of : Kind → Actor → Due → Step
step_of kind actor due = record { worker = actor.worker; event = event_of kind actor.ticket due }

-- the steps of a seed that is taken and closed at once
abbrev pub taken_at : ℕ → ℕ → ℕ → Step
taken_at worker ticket point = record { worker = worker; event = Take (Seed point) ticket }

abbrev pub finished_at : ℕ → ℕ → Step
finished_at worker ticket = record { worker = worker; event = Finish ticket }

abbrev pub step_at : Reader → Mark → Step
step_at r m = step_of m.kind (pick m.changed r.actor r.actors) (pick m.jumped r.due r.dues)

abbrev pub beyond : Reader → Mark → Reader
beyond r m = record {
  actor = pick m.changed r.actor r.actors;
  due = due_after m.kind (pick m.jumped r.due r.dues);
  actors = left m.changed r.actors;
  dues = left m.jumped r.dues;
}

abbrev pub steps_read : Reader → List Mark → List Step
steps_read r [] = []
steps_read r (m ∷ marks) = step_at r m ∷ steps_read (beyond r m) marks

-- the marks name all the changes that the reader has, and behind the last mark this is who acted and what is due
abbrev pub ReadsToEnd : Reader → List Mark → Actor → Due → Type 0
ReadsToEnd r [] actor due = r ≡ record { actor = actor; due = due; actors = []; dues = [] }
ReadsToEnd r (m ∷ marks) actor due = HasNext m.changed r.actors × HasNext m.jumped r.dues × ReadsToEnd (beyond r m) marks actor due

abbrev pub IsJournalOf : List Actor → List Due → List Mark → Actor → Due → Type 0
IsJournalOf actors dues marks actor due = ReadsToEnd (opened actors dues) marks actor due
