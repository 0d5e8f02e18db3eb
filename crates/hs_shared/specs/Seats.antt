-- What a seat of a shared table knows.
--     SeatData            the table's turn, and what the seat knows of the story: a list of steps of workers, upon the base of a core
--     worker_of           the number of the seat that tells a step: its worker
--     IsSeatOf            the seat is this table's, and no call of it is under way
--     Sees s P            P holds of the seat's base and of the state after the story that the seat has seen
--     HasSeenOwn          among what the seat has seen, the steps under its number are exactly its own
use Rattle.std.specs.Prelude.{◌≡◌, ℕ, false, IfSome}
use Rattle.atomic_table.specs.Seated.{TableId}
use Rattle.hs_history.specs.Story.{Base, CoreStep}
use Rattle.hs_history.specs.CoreStep.{State}
use Rattle.hs_history.specs.History.{state_after}
use Rattle.hs_turn.specs.Story.{told_by}
use Rattle.hs_turn.specs.Seats.{SeatView}

abbrev pub SeatData : Type 0
SeatData = SeatView Base CoreStep

abbrev pub worker_of : CoreStep → ℕ
worker_of s = s.worker

pub record IsSeatOf (table : TableId) (s : SeatData) : Type 0 where
  pub turn : s.turn ≡ table
  pub free : s.known.holds ≡ false

abbrev pub Sees : SeatData → (Base → State → Type 0) → Type 0
Sees s P = IfSome s.known.base (λ base. P base (state_after base s.known.seen))

abbrev pub HasSeenOwn : SeatData → Type 0
HasSeenOwn s = told_by worker_of s.known.number s.known.seen ≡ s.known.own
