-- What a seat that holds a shared table knows of it.
--     HoldData        the table's turn, and the core that is held
--     holding         a seat that holds the table and has seen this story
--     having_left     a seat that has left
--     HasTold         a seat tells of the steps by which the story has grown
--     IsHolding       the seat holds the table, has seen the whole story, and the steps in it under its number are its own
use Rattle.std.specs.Prelude.{◌≡◌, true, false, List, ◌++◌, Some}
use Rattle.atomic_table.specs.Seated.{TableId}
use Rattle.hs_history.specs.Story.{CoreStep, Story}
use Rattle.hs_core.specs.Core.{CoreData, IsCore}
use Rattle.hs_shared.specs.Seats.{SeatData, HasSeenOwn}

pub record HoldData : Type 0 where
  pub turn : TableId
  pub core : CoreData

abbrev pub holding : SeatData → Story → SeatData
holding s story = record { turn = s.turn; known = record s.known { holds = true; seen = story } }

abbrev pub having_left : SeatData → SeatData
having_left s = record { turn = s.turn; known = record s.known { holds = false } }

-- the seat has then seen the whole story, and the steps by which it has grown are its own
abbrev pub HasTold : SeatData → Story → SeatData → Type 0
HasTold old story new = (steps : List CoreStep) × (story ≡ old.known.seen ++ steps)
    × (new ≡ record { turn = old.turn; known = record old.known { seen = story; own = old.known.own ++ steps } })

pub record IsHolding (s : SeatData) (h : HoldData) : Type 0 where
  pub turn : s.turn ≡ h.turn
  pub holds : s.known.holds ≡ true
  pub base : s.known.base ≡ Some h.core.base
  pub seen : s.known.seen ≡ h.core.story
  pub own : HasSeenOwn s
  pub know_core : IsCore h.core
