-- What a worker knows between two holds of the table, and while it holds it.
--     CommonData          the table at which all workers work, and its problem
--     WorkerData          these, with a worker's replica of the log, and its works
--     IsSeated            its seat is one of the table's, and what it has seen is a history
--     IsUpon              the table's problem is this one
--     BeginsSeen          a replica's log begins the log that the seat has seen
--     StepsInHold         the seat has done steps in one hold
--     IfServes            it holds where the worker forms next, on its replica
--     IsFree              a worker with a replica that begins what it has seen
--     IsLoaded            it carries works
--     IfEnds              it holds where the worker ends
--     CarriesNothing      no work is in flight under the seat's number
--     IsFirstSeat         seat 0, which has told of nothing
--     RestsSeated         a seat rests there
--     RestsIdle           which carries nothing
use Rattle.std.specs.Prelude.{◌≡◌, ℕ, List, [], ◌∷◌, Some, All}
use mathlib.Core.List.{IsPrefix}
use Rattle.atomic_table.specs.Seated.{TableId}
use Rattle.hs_scheme.specs.Problem.{ProblemData}
use Rattle.hs_table.specs.Entries.{EntryData}
use Rattle.hs_types.specs.Interned.{InternerData}
use Rattle.hs_history.specs.declared.step.Work.{Work}
use Rattle.hs_history.specs.Story.{Base}
use Rattle.hs_history.specs.History.{IsLegal}
use Rattle.hs_core.specs.Core.{log_of}
use Rattle.hs_shared.specs.Seats.{SeatData, IsSeatOf, Sees}
use Rattle.hs_shared.specs.Holding.{HoldData, IsHolding}
use Rattle.hs_workers.specs.declared.job.Job.{Job}
use Rattle.hs_workers.specs.declared.handing.Next.{Next}
use Rattle.hs_workers.specs.declared.handing.Next.TheVariants.{Serve, Pass, Rest, Wait, End}
use Rattle.hs_workers.specs.Jobs.{keys, Carries, CarriesAll, IsFormed}

pub record CommonData : Type 0 where
  pub table : TableId
  pub problem : ProblemData

pub record WorkerData : Type 0 where
  pub table : TableId
  pub problem : ProblemData
  pub log : List EntryData
  pub works : List Work

pub record IsSeated (table : TableId) (s : SeatData) : Type 0 where
  pub seat : IsSeatOf table s
  pub base : Base
  pub knows : s.known.base ≡ Some base
  pub legal : IsLegal base s.known.seen

abbrev pub IsUpon : ProblemData → SeatData → Type 0
IsUpon p s = Sees s (λ base state. base.problem ≡ p)

abbrev pub BeginsSeen : List EntryData → SeatData → Type 0
BeginsSeen log s = Sees s (λ base state. IsPrefix log state.log)

-- steps of the seat in one hold: it holds the table still, which has the same base and a log that has grown
pub record StepsInHold (old new : SeatData) (before after : HoldData) : Type 0 where
  pub holds : IsHolding new after
  pub number : new.known.number ≡ old.known.number
  pub turn : after.turn ≡ before.turn
  pub base : after.core.base ≡ before.core.base
  pub log : IsPrefix (log_of before.core) (log_of after.core)

abbrev pub IfServes : Next → Type 0 → Type 0
IfServes Serve P = P
IfServes Pass P = Unit {0}
IfServes Rest P = Unit {0}
IfServes Wait P = Unit {0}
IfServes End P = Unit {0}

abbrev pub IfEnds : Next → Type 0 → Type 0
IfEnds Serve P = Unit {0}
IfEnds Pass P = Unit {0}
IfEnds Rest P = Unit {0}
IfEnds Wait P = Unit {0}
IfEnds End P = P

abbrev pub CarriesNothing : SeatData → Type 0
CarriesNothing s = Sees s (λ base state. CarriesAll s.known.number state.flight [])

-- a worker that holds no work: its seat is the table's, upon this problem, and its replica's log begins what it has seen
pub record IsFree (table : TableId) (p : ProblemData) (s : SeatData) (log : List EntryData) : Type 0 where
  pub seated : IsSeated table s
  pub upon : IsUpon p s
  pub begins : BeginsSeen log s

-- a worker that carries these works, for which perhaps something was formed
pub record IsLoaded (table : TableId) (p : ProblemData) (s : SeatData) (ids : InternerData) (log : List EntryData) (jobs : List Job) : Type 0 where
  pub free : IsFree table p s log
  pub carries : Sees s (λ base state. Carries s.known.number state.flight (keys jobs))
  pub all : Sees s (λ base state. CarriesAll s.known.number state.flight (keys jobs))
  pub formed : All (IsFormed p ids log) jobs

-- seat 0, which has split off and joined so many seats
pub record IsFirstSeat (table : TableId) (splits joins : ℕ) (s : SeatData) : Type 0 where
  pub seat : IsSeatOf table s
  pub number : s.known.number ≡ 0
  pub own : s.known.own ≡ []
  pub splits_are : s.known.splits ≡ splits
  pub joins_are : s.known.joins ≡ joins

-- it is upon a base with this problem
pub record IsBased (p : ProblemData) (s : SeatData) : Type 0 where
  pub base : Base
  pub problem : base.problem ≡ p
  pub knows : s.known.base ≡ Some base

-- nothing has been seen yet
abbrev pub HasSeenNothing : SeatData → Type 0
HasSeenNothing s = s.known.seen ≡ []

pub record RestsSeated (table : TableId) (p : ProblemData) (rested : List SeatData) : Type 0 where
  pub seat : SeatData
  pub is : rested ≡ seat ∷ []
  pub free : IsFree table p seat []
  pub nothing : CarriesNothing seat

abbrev pub RestsIdle : List SeatData → Type 0
RestsIdle rested = (seat : SeatData) × (rested ≡ seat ∷ []) × CarriesNothing seat
