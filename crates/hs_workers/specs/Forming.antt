-- What a worker forms by a work, on its replica of the log.
--     IsLoggedOrFound  its entry is in the log, or among what was found
--     KeepsNew         what was found gains some of what was formed, and all of it that the log lacks
--     FollowsThere     an entry at the point that follows by the place from the entries up to it
--     AreAllAt         all that the log lacks of what follows at these points by the place
--     AreFormed        once a log that begins with this one has all that was found, it has all that follows by the work
use Rattle.std.specs.Prelude.{◌≡◌, ℕ, ◌+◌, ◌<◌, List, ◌++◌, length, map, take, slice_index, All, Contains, ◌⊎◌}
use Rattle.hs_scheme.specs.Problem.{ProblemData}
use Rattle.hs_table.specs.Entries.{EntryData}
use Rattle.hs_table.specs.Follows.{Support, FollowsBy, premises}
use Rattle.hs_types.specs.Interned.{InternerData, entry_of}
use Rattle.hs_rules.specs.Conclusions.{DeducedData, IsDeduced}
use Rattle.hs_history.specs.declared.step.Work.{Work}
use Rattle.hs_history.specs.CoreStep.{IsClosedWork}

-- the entries of what was found
abbrev pub entries_of : InternerData → List DeducedData → List EntryData
entries_of ids found = map (λ (d : DeducedData). entry_of ids d.row) found

abbrev pub IsLoggedOrFound : InternerData → List EntryData → List DeducedData → EntryData → Type 0
IsLoggedOrFound ids log found e = Contains log e ⊎ Contains (entries_of ids found) e

pub record KeepsNew (ids : InternerData) (log : List EntryData) (formed old new : List DeducedData) : Type 0 where
  pub more : List DeducedData
  pub is : new ≡ old ++ more
  pub among : All (λ (d : DeducedData). Contains formed d) more
  pub each : All (λ (d : DeducedData). IsLoggedOrFound ids log new (entry_of ids d.row)) formed

pub record FollowsThere (p : ProblemData) (log : List EntryData) (place point : ℕ) (e : EntryData) : Type 0 where
  pub at : e.point ≡ point
  pub support : Support
  pub follows : FollowsBy p (take (place + 1) log) support e
  pub uses : Contains (premises support) place

pub record AreAllAt (p : ProblemData) (ids : InternerData) (log : List EntryData) (points : List ℕ) (place : ℕ) (found : List DeducedData) : Type 0 where
  pub deduced : All (IsDeduced p ids log) found
  pub all : (k : ℕ) → k < length points → (e : EntryData) → FollowsThere p log place (slice_index points k) e → IsLoggedOrFound ids log found e

-- this log has each entry that was found
abbrev pub HasFound : InternerData → List DeducedData → List EntryData → Type 0
HasFound ids found log = All (λ (d : DeducedData). Contains log (entry_of ids d.row)) found

pub record AreFormed (p : ProblemData) (ids : InternerData) (log : List EntryData) (work : Work) (found : List DeducedData) : Type 0 where
  pub deduced : All (IsDeduced p ids log) found
  pub closes : (more : List EntryData) → HasFound ids found (log ++ more) → IsClosedWork p (log ++ more) work
