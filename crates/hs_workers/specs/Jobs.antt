-- The works that a worker holds.
--     keys            their tickets and works
--     Carries         in flight each of these is the worker's, under its ticket, and no ticket comes twice
--     CarriesAll      no other work is in flight for the worker
--     IsUnformed      nothing is formed for it yet
--     IsFormed        what is formed for it, where it is, is all that the log lacks
use Rattle.std.specs.Prelude.{◌≡◌, ℕ, List, [], ◌∷◌, map, Option, Some, None, IfSome, Contains}
use Rattle.hs_scheme.specs.Problem.{ProblemData}
use Rattle.hs_table.specs.Entries.{EntryData}
use Rattle.hs_types.specs.Interned.{InternerData}
use Rattle.hs_history.specs.declared.step.Work.{Work}
use Rattle.hs_history.specs.declared.step.Flight.{Flight}
use Rattle.hs_history.specs.CoreStep.{put}
use Rattle.hs_workers.specs.declared.job.Job.{Job}
use Rattle.hs_workers.specs.Forming.{AreFormed}

abbrev pub key : Job → ℕ × Work
key j = (j.ticket, j.work)

abbrev pub keys : List Job → List (ℕ × Work)
keys jobs = map key jobs

abbrev pub Carries : ℕ → (ℕ → Option Flight) → List (ℕ × Work) → Type 0
Carries worker flight [] = Unit {0}
Carries worker flight (k ∷ ks) = (flight k.0 ≡ Some (record { worker = worker; work = k.1 })) × Carries worker (put k.0 None flight) ks

abbrev pub CarriesAll : ℕ → (ℕ → Option Flight) → List (ℕ × Work) → Type 0
CarriesAll worker flight ks = (ticket : ℕ) (work : Work) → flight ticket ≡ Some (record { worker = worker; work = work }) → Contains ks (ticket, work)

abbrev pub IsUnformed : Job → Type 0
IsUnformed j = j.found ≡ None

abbrev pub IsFormed : ProblemData → InternerData → List EntryData → Job → Type 0
IsFormed p ids log j = IfSome j.found (λ v. AreFormed p ids log j.work v.items)
