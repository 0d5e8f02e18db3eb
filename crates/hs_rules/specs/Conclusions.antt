-- Conclusions: entries that follow from a log, as rows, each with a support.
--     DeducedData        a row and a support
--     IsDeduced          the row's entry follows from the log by the support
--     IsShaped           the row's entry is in shape, so it may be added to a log
--     AnySupport, Uses   the supports that count: all; those with a premise at the place
--     IsLeastOf          no support that counts, by which the entry follows, has a lesser list of places
--     AreSomeConclusions entries at a point that follow by a support that counts, each once, with one of these
--     AreConclusions     just the entries at a point that follow by a support that counts, each once, with the least of these
use Rattle.std.specs.Prelude.{◌≡◌, ◌≢◌, ℕ, List, map, All, AllPairs, Contains}
use Rattle.hs_scheme.specs.Problem.{ProblemData}
use Rattle.hs_table.specs.Entries.{EntryData, InShape}
use Rattle.hs_table.specs.Follows.{Support, FollowsBy, premises}
use Rattle.hs_types.specs.Interned.{InternerData, RowData, IsRow, entry_of}
use Rattle.hs_rules.specs.Order.{IsNoGreater}

pub record DeducedData : Type 0 where
  pub row : RowData
  pub support : Support

pub record IsDeduced (p : ProblemData) (ids : InternerData) (log : List EntryData) (d : DeducedData) : Type 0 where
  pub row : IsRow ids d.row
  pub follows : FollowsBy p log d.support (entry_of ids d.row)

pub record IsShaped (p : ProblemData) (ids : InternerData) (d : DeducedData) : Type 0 where
  pub row : IsRow ids d.row
  pub shape : InShape p (entry_of ids d.row)

abbrev pub AnySupport : Support → Type 0
AnySupport s = Unit {0}

abbrev pub Uses : ℕ → Support → Type 0
Uses place s = Contains (premises s) place

abbrev pub IsLeastOf : ProblemData → List EntryData → (Support → Type 0) → Support → EntryData → Type 0
IsLeastOf p log Counts s e = (r : Support) → FollowsBy p log r e → Counts r → IsNoGreater (premises s) (premises r)

pub record AreSomeConclusions (p : ProblemData) (ids : InternerData) (log : List EntryData) (point : ℕ) (Counts : Support → Type 0) (found : List DeducedData) : Type 0 where
  pub deduced : All (IsDeduced p ids log) found
  pub count : All (λ d. Counts d.support) found
  pub at : All (λ d. d.row.point ≡ point) found
  pub once : AllPairs (λ a b. a.row ≢ b.row) found

pub record AreConclusions (p : ProblemData) (ids : InternerData) (log : List EntryData) (point : ℕ) (Counts : Support → Type 0) (found : List DeducedData) : Type 0 where
  pub deduced : All (IsDeduced p ids log) found
  pub count : All (λ d. Counts d.support) found
  pub at : All (λ d. d.row.point ≡ point) found
  pub each : (s : Support) (e : EntryData) → e.point ≡ point → FollowsBy p log s e → Counts s → Contains (map (λ d. entry_of ids d.row) found) e
  pub once : AllPairs (λ a b. a.row ≢ b.row) found
  pub least : All (λ d. IsLeastOf p log Counts d.support (entry_of ids d.row)) found
