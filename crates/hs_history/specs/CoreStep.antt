-- The steps of workers on a log of entries.
--     State                        a log with its supports, works that are pending, in flight under tickets, and closed, and perhaps an
--                                  entry past the budget
--     IsClosedWork p log work      the log has what follows by the work: at a seed's point from no entry; at the dependents of a place's
--                                  point from the entries up to that place, by a support that names the place
--     CanStep base state step      the step may come next
--     after state step             what it leads to; each step changes only what it names
use Rattle.std.specs.Prelude.{◌≡◌, ℕ, ◌+◌, ◌<◌, Bool, true, false, nat_eq, if◌then◌else◌, zero, suc, List, [], ◌∷◌, ◌++◌, length, take, slice_get, Option, Some, None, Contains}
use Rattle.std.specs.Option.{option_map_or}
use Rattle.hs_scheme.specs.flow.Dependents.{IsDependent}
use Rattle.hs_scheme.specs.Problem.{ProblemData}
use Rattle.hs_table.specs.Entries.{EntryData}
use Rattle.hs_table.specs.Follows.{Support, FollowsBy, Follows, premises}
use Rattle.hs_table.specs.Tables.{HasStart}
use Rattle.hs_history.specs.declared.step.Flight.{Flight}
use Rattle.hs_history.specs.declared.step.Work.{Work}
use Rattle.hs_history.specs.declared.step.Work.TheVariants.{Seed, Place}
use Rattle.hs_history.specs.Story.{Base, Deduction, Action, takes, adds, passes, finishes, gives_back, CoreStep}

pub record State : Type 0 where
  pub log : List EntryData
  pub supports : List Support
  pub pending : List Work
  pub flight : ℕ → Option Flight
  pub closed : List Work
  pub kept : Option Deduction

-- the seeds of the points below n
abbrev pub seeds : ℕ → List Work
seeds zero = []
seeds (suc n) = seeds n ++ Seed n ∷ []

abbrev pub is_work : Work → Work → Bool
is_work (Seed p) (Seed q) = nat_eq p q
is_work (Seed p) (Place j) = false
is_work (Place i) (Seed q) = false
is_work (Place i) (Place j) = nat_eq i j

-- the works but one
abbrev pub without : Work → List Work → List Work
without w [] = []
without w (v ∷ vs) = if is_work w v then vs else v ∷ without w vs

-- this is under the ticket, and under the others what was there
abbrev pub put : ℕ → Option Flight → (ℕ → Option Flight) → ℕ → Option Flight
put ticket flown flight other = if nat_eq other ticket then flown else flight other

-- the work under a ticket, as a list of none or one
abbrev pub work_under : Option Flight → List Work
work_under flown = option_map_or (λ (f : Flight). f.work ∷ []) flown []

-- at the beginning every seed is pending
abbrev pub opening : Base → State
opening base = record { log = []; supports = []; pending = seeds (length base.problem.points.points); flight = λ ticket. None; closed = []; kept = None }

-- each entry at the point that follows from no entry is in the log
abbrev pub IsClosedSeed : ProblemData → List EntryData → ℕ → Type 0
IsClosedSeed p log point = (e : EntryData) → e.point ≡ point → Follows p [] e → Contains log e

-- each entry at a dependent of the point of the entry at place i that follows from the entries up to that one, which is among its premises,
-- is in the log
abbrev pub IsClosedPlace : ProblemData → List EntryData → ℕ → Type 0
IsClosedPlace p log i =
    (at e : EntryData) (s : Support) → slice_get log i ≡ Some at → IsDependent p.points p.flow.pairs at.point e.point
    → FollowsBy p (take (i + 1) log) s e → Contains (premises s) i → Contains log e

abbrev pub IsClosedWork : ProblemData → List EntryData → Work → Type 0
IsClosedWork p log (Seed point) = IsClosedSeed p log point
IsClosedWork p log (Place i) = IsClosedPlace p log i

-- the worker holds the ticket
abbrev pub Holds : State → ℕ → ℕ → Type 0
Holds s worker ticket = (work : Work) × (s.flight ticket ≡ Some (record { worker = worker; work = work }))

-- where only the start entry is sought, it hasn't been found
abbrev pub GoesOn : Base → List EntryData → Type 0
GoesOn base log = base.first ≡ true → HasStart base.problem log → ⊥

pub record CanTake (base : Base) (s : State) (work : Work) (ticket : ℕ) : Type 0 where
  pub none_kept : s.kept ≡ None
  pub goes_on : GoesOn base s.log
  pub pending : Contains s.pending work
  pub free : s.flight ticket ≡ None

-- the entry is new and follows from the log
pub record IsNew (base : Base) (s : State) (d : Deduction) : Type 0 where
  pub new : Contains s.log d.entry → ⊥
  pub follows : FollowsBy base.problem s.log d.support d.entry

pub record CanAdd (base : Base) (s : State) (worker ticket : ℕ) (d : Deduction) : Type 0 where
  pub holds : Holds s worker ticket
  pub is_new : IsNew base s d
  pub room : length s.log < base.budget

pub record CanPass (base : Base) (s : State) (worker ticket : ℕ) (d : Deduction) : Type 0 where
  pub holds : Holds s worker ticket
  pub is_new : IsNew base s d
  pub full : length s.log ≡ base.budget
  pub none_kept : s.kept ≡ None

pub record CanFinish (base : Base) (s : State) (worker ticket : ℕ) : Type 0 where
  pub work : Work
  pub holds : s.flight ticket ≡ Some (record { worker = worker; work = work })
  pub closed : IsClosedWork base.problem s.log work

abbrev pub CanAct : Base → State → ℕ → Action → Type 0
CanAct base s worker (takes work ticket) = CanTake base s work ticket
CanAct base s worker (adds ticket d) = CanAdd base s worker ticket d
CanAct base s worker (passes ticket d) = CanPass base s worker ticket d
CanAct base s worker (finishes ticket) = CanFinish base s worker ticket
CanAct base s worker (gives_back ticket) = Holds s worker ticket

abbrev pub CanStep : Base → State → CoreStep → Type 0
CanStep base s step = CanAct base s step.worker step.action

abbrev pub acted : State → ℕ → Action → State
acted s worker (takes work ticket) = record {
  log = s.log;
  supports = s.supports;
  pending = without work s.pending;
  flight = put ticket (Some (record { worker = worker; work = work })) s.flight;
  closed = s.closed;
  kept = s.kept;
}
acted s worker (adds ticket d) = record {
  log = s.log ++ d.entry ∷ [];
  supports = s.supports ++ d.support ∷ [];
  pending = s.pending ++ Place (length s.log) ∷ [];
  flight = s.flight;
  closed = s.closed;
  kept = s.kept;
}
acted s worker (passes ticket d) = record { log = s.log; supports = s.supports; pending = s.pending; flight = s.flight; closed = s.closed; kept = Some d }
acted s worker (finishes ticket) = record {
  log = s.log;
  supports = s.supports;
  pending = s.pending;
  flight = put ticket None s.flight;
  closed = s.closed ++ work_under (s.flight ticket);
  kept = s.kept;
}
acted s worker (gives_back ticket) = record {
  log = s.log;
  supports = s.supports;
  pending = s.pending ++ work_under (s.flight ticket);
  flight = put ticket None s.flight;
  closed = s.closed;
  kept = s.kept;
}

abbrev pub after : State → CoreStep → State
after s step = acted s step.worker step.action
