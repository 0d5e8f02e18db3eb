-- What is gathered of a round: entries that follow from the log and that it lacks, with supports.
--     IsNewDeduced, AreNewDeduced            so is one of these; so are all of them
--     IsKnown                  an entry is in the log, or was gathered with no greater support
--     AddsNew                  those of a kind whose entries the log lacks were added, or are there with no greater supports
--     Gathered old xs new ys   xs became ys, while the interner gained what it may
use Rattle.std.specs.Prelude.{List, Contains, ◌⊎◌}
use Rattle.hs_scheme.specs.Problem.{ProblemData}
use Rattle.hs_table.specs.Entries.{EntryData}
use Rattle.hs_table.specs.Follows.{Support}
use Rattle.hs_types.specs.Interned.{InternerData, entry_of, Grows}
use Rattle.hs_rules.specs.Conclusions.{DeducedData, IsDeduced}
use Rattle.hs_rules.specs.Found.{HasNoGreater, Lowers}
use Rattle.hs_rules.specs.Parts.{HasRowFor}

pub record IsNewDeduced (p : ProblemData) (ids : InternerData) (log : List EntryData) (d : DeducedData) : Type 0 where
  pub deduced : IsDeduced p ids log d
  pub new : Contains log (entry_of ids d.row) → ⊥

abbrev pub AreNewDeduced : ProblemData → InternerData → List EntryData → List DeducedData → Type 0
AreNewDeduced p ids log found = (d : DeducedData) → Contains found d → IsNewDeduced p ids log d

abbrev pub IsKnown : InternerData → List EntryData → List DeducedData → Support → EntryData → Type 0
IsKnown ids log found s e = Contains log e ⊎ HasRowFor ids found s e

pub record AddsNew (ids : InternerData) (log : List EntryData) (Among : DeducedData → Type 0) (old new : List DeducedData) : Type 0 where
  pub lowers : Lowers old new
  pub only : (d : DeducedData) → Contains new d → Contains old d ⊎ (Among d × (Contains log (entry_of ids d.row) → ⊥))
  pub there : (d : DeducedData) → Among d → Contains log (entry_of ids d.row) ⊎ HasNoGreater new d.row d.support

pub record Gathered (p : ProblemData) (log : List EntryData) (old : InternerData) (xs : List DeducedData) (new : InternerData) (ys : List DeducedData) : Type 0 where
  pub grows : Grows old new
  pub fresh : AreNewDeduced p new log ys
  pub more : (s : Support) (e : EntryData) → IsKnown old log xs s e → IsKnown new log ys s e
