-- What the call of a seat finds, does and leaves.
--     Finds s core        the core that a call of the seat finds
--     seat_after          the seat after a call
--     Does does           the call does this to the core that it finds
--     Looks               it changes nothing in it
--     GrowsOnce           a story grows by one step of this worker, or not at all
use Rattle.std.specs.Prelude.{◌≡◌, ℕ, false, List, [], ◌∷◌, ◌++◌, Some, ◌⊎◌}
use mathlib.Core.List.{IsPrefix}
use Rattle.hs_history.specs.Story.{Action, CoreStep, Story}
use Rattle.hs_core.specs.Core.{CoreData, IsCore}
use Rattle.hs_turn.specs.Story.{told_by}
use Rattle.hs_shared.specs.Seats.{SeatData, worker_of, HasSeenOwn}

-- it has the seat's base, its story begins with all that the seat has seen, and the steps in it under the seat's number are exactly the
-- seat's own, all of which the seat has seen
pub record Finds (s : SeatData) (core : CoreData) : Type 0 where
  pub base : s.known.base ≡ Some core.base
  pub begins : IsPrefix s.known.seen core.story
  pub own : told_by worker_of s.known.number core.story ≡ s.known.own
  pub seen_own : HasSeenOwn s
  pub know_core : IsCore core

-- the seat has seen this story, these steps are its own, and all else that it knows is as before
abbrev pub seat_after : SeatData → Story → List CoreStep → SeatData
seat_after s story own = record { turn = s.turn; known = record s.known { holds = false; seen = story; own = own } }

-- the seat has then seen the story that the call leaves, and the steps by which the story has grown are its own
pub record Does (does : CoreData → CoreData → Type 0) (old new : SeatData) : Type 0 where
  pub found : CoreData
  pub finds : Finds old found
  pub left : CoreData
  pub done : does found left
  pub know_core : IsCore left
  pub steps : List CoreStep
  pub grown : left.story ≡ found.story ++ steps
  pub seat : new ≡ seat_after old left.story (old.known.own ++ steps)
  pub own : HasSeenOwn new

-- the seat has then seen the story that the call finds
pub record Looks (old new : SeatData) : Type 0 where
  pub found : CoreData
  pub finds : Finds old found
  pub seat : new ≡ seat_after old found.story old.known.own
  pub own : HasSeenOwn new

abbrev pub GrowsOnce : ℕ → Story → Story → Type 0
GrowsOnce worker old new = (new ≡ old) ⊎ ((action : Action) × (new ≡ old ++ (record { worker = worker; action = action }) ∷ []))
