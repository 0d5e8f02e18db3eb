-- A table that grows; only private contracts cite it.
--     GrowingData       a problem and a budget, the entries that were added, in their order, and by point, and by point and last state, those that are kept
--     entries I rows    the entries of rows
--     IsCoveredAt       an entry that is kept covers this one
--     AreEnding         by point and last state are just those that are kept
--     IsGrowing         each that was added weakly follows from those before it and is covered by none of them, and by one that is kept;
--                       none that is kept covers another
--     AreOfRows         the entries are of rows that are kept
--     CoversAllAt       what weakly follows from what is kept, at the point, is covered
--     CoversAll         so at each point
--     AreLeft           of some rows those that a row doesn't cover
--     WhereNoneAdded    where nothing was added, though there was room, nothing has changed, and something is so
--     AreKept           the entries of those of the rows that are kept
--     AreAdded          the rows are some of those that were added
--     IsLeftBy          those that a row covers aren't kept any more, and all else is as it was
--     IsGrownFrom       what adding and numbering leave as it was, and that nothing goes from what was added
use Rattle.std.specs.Prelude.{◌≡◌, refl, ◌≢◌, ◌⊎◌, ◌↔◌, false, nat_eq, ℕ, ◌+◌, ◌≤◌, List, length, map, All, AllPairs, Contains}
use Rattle.std.specs.Coded.{Coded, code_by, coded×, coded_ℕ, coded_list}
use Rattle.hs_scheme.specs.Problem.{ProblemData, coded_problem}
use Rattle.hs_table.specs.Entries.{EntryData}
use Rattle.hs_weak.specs.Strength.{AsStrongAs, Covers}
use Rattle.hs_weak.specs.Weak.{WeaklyFollows, EachWeaklyFollows}
use Rattle.hs_weak.specs.Reads.{last_state}
use Rattle.hs_types.specs.Interned.{InternerData, RowData, IsRow, type_of_id, entry_of, Grows}
use Rattle.hs_reads.specs.Lists.{list_of}
use Rattle.hs_minimal.specs.Compact.{NoneIsCovered}
use Rattle.hs_minimal.specs.Ends.{EndData, coded_row, coded_ends, rows_ending}

pub record GrowingData : Type 0 where
  pub problem : ProblemData
  pub budget : ℕ
  pub history : List RowData
  pub rows : List (List RowData)
  pub ends : EndData

abbrev pub coded_growing : Coded GrowingData
coded_growing =
    code_by (ProblemData × (ℕ × (List RowData × (List (List RowData) × EndData)))) (coded× coded_problem (coded× coded_ℕ (coded× (coded_list coded_row) (coded× (coded_list (coded_list coded_row)) coded_ends))))
    (λ g. (g.problem, (g.budget, (g.history, (g.rows, g.ends))))) (λ p. record { problem = p.0; budget = p.1.0; history = p.1.1.0; rows = p.1.1.1.0; ends = p.1.1.1.1 }) (λ _. refl)

abbrev pub entries : InternerData → List RowData → List EntryData
entries I rows = map (entry_of I) rows

abbrev pub IsCoveredAt : InternerData → GrowingData → EntryData → Type 0
IsCoveredAt I g e = (by : RowData) × (Contains (list_of g.rows e.point) by × Covers AsStrongAs (entry_of I by) e)

abbrev pub AreEnding : InternerData → List (List RowData) → EndData → Type 0
AreEnding I rows ends = (u q : ℕ) (r : RowData) → Contains (rows_ending ends u q) r ↔ (Contains (list_of rows u) r × (last_state (type_of_id I r.ty) ≡ q))

pub record IsGrowing (I : InternerData) (g : GrowingData) : Type 0 where
  pub in_use : All (IsRow I) g.history
  pub few : length g.history ≤ g.budget + 1
  pub derived : EachWeaklyFollows AsStrongAs g.problem (entries I g.history)
  pub uncovered : NoneIsCovered (entries I g.history)
  pub long : length g.rows ≡ length g.problem.points.points
  pub ended : AreEnding I g.rows g.ends
  pub taken : (u : ℕ) (row : RowData) → Contains (list_of g.rows u) row → (row.point ≡ u) × Contains g.history row
  pub covering : (row : RowData) → Contains g.history row → IsCoveredAt I g (entry_of I row)
  pub apart : (u : ℕ) (a b : RowData) → Contains (list_of g.rows u) a → Contains (list_of g.rows u) b → Covers AsStrongAs (entry_of I a) (entry_of I b) → a ≡ b

abbrev pub AreOfRows : InternerData → GrowingData → List EntryData → Type 0
AreOfRows I g C = (e : EntryData) → Contains C e → (row : RowData) × (Contains (list_of g.rows row.point) row × (entry_of I row ≡ e))

abbrev pub CoversAllAt : InternerData → GrowingData → ℕ → Type 0
CoversAllAt I g point = (C : List EntryData) → AreOfRows I g C → (e : EntryData) → e.point ≡ point → WeaklyFollows AsStrongAs g.problem C e → IsCoveredAt I g e

abbrev pub CoversAll : InternerData → GrowingData → Type 0
CoversAll I g = (C : List EntryData) → AreOfRows I g C → (e : EntryData) → WeaklyFollows AsStrongAs g.problem C e → IsCoveredAt I g e

pub record AreLeft (I : InternerData) (row : RowData) (rows left : List RowData) : Type 0 where
  pub come : (r : RowData) → Contains left r → Contains rows r × (Covers AsStrongAs (entry_of I row) (entry_of I r) → ⊥)
  pub gone : (r : RowData) → Contains rows r → Contains left r ⊎ Covers AsStrongAs (entry_of I row) (entry_of I r)

abbrev pub AreAdded : GrowingData → List RowData → Type 0
AreAdded g rows = (r : RowData) → Contains rows r → Contains g.history r

pub record IsLeftBy (I : InternerData) (row : RowData) (old new : GrowingData) : Type 0 where
  pub problem : new.problem ≡ old.problem
  pub budget : new.budget ≡ old.budget
  pub history : new.history ≡ old.history
  pub long : length new.rows ≡ length old.rows
  pub left : AreLeft I row (list_of old.rows row.point) (list_of new.rows row.point)
  pub elsewhere : (u : ℕ) → nat_eq u row.point ≡ false → list_of new.rows u ≡ list_of old.rows u
  pub ended : AreEnding I new.rows new.ends

pub record IsGrownFrom (I J : InternerData) (old new : GrowingData) : Type 0 where
  pub numbers : Grows I J
  pub problem : new.problem ≡ old.problem
  pub budget : new.budget ≡ old.budget
  pub longer : length old.history ≤ length new.history
  pub keeps : (r : RowData) → Contains old.history r → Contains new.history r

abbrev pub WhereNoneAdded : GrowingData → GrowingData → Type 0 → Type 0
WhereNoneAdded old new P = length new.history ≡ length old.history → length old.history ≤ old.budget → (new ≡ old) × P

-- the entries of those of the rows, which were added, that are kept, each once
pub record AreKept (I : InternerData) (g : GrowingData) (rows : List RowData) (kept : List EntryData) : Type 0 where
  pub exact : (e : EntryData) → Contains kept e ↔ ((row : RowData) × (Contains rows row × Contains (list_of g.rows row.point) row × (entry_of I row ≡ e)))
  pub distinct : AllPairs (λ a b. a ≢ b) kept
