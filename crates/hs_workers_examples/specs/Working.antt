-- Workers at a shared table, call by call.
--     IsAtWork           in this state the worker's replica begins the log, and what it says to hold it holds
--     IsWorker           its seat is one of the table's, and so it is in what the seat has seen
--     IsHolder           its seat holds the table, and so it is in the core
--     IsSameSeat         a seat has the number, the splits and the joins that it had
--     IsFresh            a seat of the table, upon this problem, that has seen nothing
--     IsFirstSeat        seat 0, with so many splits and joins
--     held_after         what a worker holds after this answer to its taking
--     AreFollowing       just the entries at a point that follow by the work
--     IsClosedAt         the log has all that follows at a point by the work
use Rattle.std.specs.Prelude.{◌≡◌, ℕ, ◌+◌, List, [], take, Option, Some, None, All, Contains}
use mathlib.Core.List.{IsPrefix}
use Rattle.atomic_table.specs.Seated.{TableId}
use Rattle.hs_scheme.specs.Problem.{ProblemData}
use Rattle.hs_table.specs.Entries.{EntryData, InShape}
use Rattle.hs_table.specs.Follows.{Support, FollowsBy}
use Rattle.hs_types.specs.Interned.{InternerData}
use Rattle.hs_rules.specs.Conclusions.{DeducedData, AnySupport, Uses, AreConclusions}
use Rattle.hs_history.specs.declared.step.Work.{Work}
use Rattle.hs_history.specs.declared.step.Work.TheVariants.{Seed, Place}
use Rattle.hs_history.specs.Story.{Base}
use Rattle.hs_history.specs.CoreStep.{State}
use Rattle.hs_history.specs.History.{state_after}
use Rattle.hs_core.specs.declared.answers.Taken.{Taken}
use Rattle.hs_core.specs.declared.answers.Taken.TheVariants.{Item, Quiet, Idle, Over, Found}
use Rattle.hs_core.specs.Core.{state_of}
use Rattle.hs_shared.specs.Seats.{SeatData, IsSeatOf}
use Rattle.hs_shared.specs.Holding.{HoldData, IsHolding}

-- a work with its ticket, or none
abbrev pub WorkHeld : Type 0
WorkHeld = Option (Work × ℕ)

pub record IsAtWork (p : ProblemData) (number : ℕ) (log : List EntryData) (held : WorkHeld) (base : Base) (state : State) : Type 0 where
  pub upon : base.problem ≡ p
  pub begins : IsPrefix log state.log
  pub shape : All (InShape p) log
  pub holds : (work : Work) (ticket : ℕ) → held ≡ Some (work, ticket) → state.flight ticket ≡ Some (record { worker = number; work = work })

pub record IsWorker (table : TableId) (p : ProblemData) (s : SeatData) (log : List EntryData) (held : WorkHeld) : Type 0 where
  pub seat : IsSeatOf table s
  pub base : Base
  pub knows : s.known.base ≡ Some base
  pub works : IsAtWork p s.known.number log held base (state_after base s.known.seen)

pub record IsHolder (table : TableId) (p : ProblemData) (s : SeatData) (h : HoldData) (log : List EntryData) (held : WorkHeld) : Type 0 where
  pub holds : IsHolding s h
  pub turn : h.turn ≡ table
  pub works : IsAtWork p s.known.number log held h.core.base (state_of h.core)

pub record IsSameSeat (old new : SeatData) : Type 0 where
  pub number : new.known.number ≡ old.known.number
  pub splits : new.known.splits ≡ old.known.splits
  pub joins : new.known.joins ≡ old.known.joins

pub record IsFresh (table : TableId) (p : ProblemData) (s : SeatData) : Type 0 where
  pub seat : IsSeatOf table s
  pub seen : s.known.seen ≡ []
  pub base : Base
  pub problem : base.problem ≡ p
  pub knows : s.known.base ≡ Some base

pub record IsFirstSeat (splits joins : ℕ) (s : SeatData) : Type 0 where
  pub number : s.known.number ≡ 0
  pub splits_are : s.known.splits ≡ splits
  pub joins_are : s.known.joins ≡ joins

abbrev pub held_after : Taken → WorkHeld
held_after (Item work ticket) = Some (work, ticket)
held_after Quiet = None
held_after Idle = None
held_after Over = None
held_after (Found place) = None

-- the entries from which conclusions by a work are formed, and the supports that count
abbrev pub up_to : Work → List EntryData → List EntryData
up_to (Seed at) log = []
up_to (Place i) log = take (i + 1) log

abbrev pub Counts : Work → Support → Type 0
Counts (Seed at) = AnySupport
Counts (Place i) = Uses i

abbrev pub AreFollowing : ProblemData → InternerData → List EntryData → Work → ℕ → List DeducedData → Type 0
AreFollowing p ids log work point found = AreConclusions p ids (up_to work log) point (Counts work) found

abbrev pub IsClosedAt : ProblemData → List EntryData → Work → ℕ → Type 0
IsClosedAt p log work point = (s : Support) (e : EntryData) → e.point ≡ point → FollowsBy p (up_to work log) s e → Counts work s → Contains log e
