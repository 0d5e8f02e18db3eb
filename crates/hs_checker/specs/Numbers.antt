-- Entries, types and environments by number, read in an interner; only private contracts cite it.
--     entries_of I rows       the entries that the rows stand for
--     trees_of I ts           the types that the numbers stand for
--     opened_by I u ks        for each environment an entry at the point that asks just that
--     AreRows, AreTypes       the numbers are in use
--     AreEnvs n I ks          so, for environments of n parameters
--     AreLong n E u           the entries at the point are for so many parameters
--     AreRowsFor n I rows     so are the rows
--     IsJoined I u ks r e     one of the entries that ask what the environments ask, with what the row's asks beside
--     GainsTypes              the types that come from there were added, and no others, while the interner grew
use Rattle.std.specs.Prelude.{◌≡◌, ℕ, ◌<◌, List, length, map, Contains, All, ◌⊎◌, ◌↔◌}
use Rattle.std.specs.Borrow.{Bor}
use Rattle.hs_table.specs.Types.{TypeTree, state}
use Rattle.hs_table.specs.Entries.{Env, EntryData}
use Rattle.hs_checker.specs.Any.{AnyOf}
use Rattle.hs_table_plain.specs.Enumeration.{joined}
use Rattle.hs_types.specs.Interned.{InternerData, type_of_id, env_of_id, RowData, IsRow, entry_of, Grows}

abbrev pub entries_of : InternerData → List RowData → List EntryData
entries_of I rows = map (entry_of I) rows

abbrev pub trees_of : InternerData → List ℕ → List TypeTree
trees_of I ts = map (type_of_id I) ts

abbrev pub opened : ℕ → Env → EntryData
opened u env = record { point = u; env = env; ty = state 0 }

abbrev pub opened_by : InternerData → ℕ → List ℕ → List EntryData
opened_by I u ks = map (λ k. opened u (env_of_id I k)) ks

abbrev pub AreRows : InternerData → List RowData → Type 0
AreRows I rows = All (IsRow I) rows

abbrev pub AreTypes : InternerData → List ℕ → Type 0
AreTypes I ts = All (λ t. t < length I.types) ts

abbrev pub AreEnvs : ℕ → InternerData → List ℕ → Type 0
AreEnvs n I ks = All (λ k. (k < length I.envs) × (length (env_of_id I k) ≡ n)) ks

abbrev pub AreLong : ℕ → List EntryData → ℕ → Type 0
AreLong n E u = (e : EntryData) → Contains E e → e.point ≡ u → length e.env ≡ n

abbrev pub AreRowsFor : ℕ → InternerData → List (Bor RowData) → Type 0
AreRowsFor n I rows = (r : Bor RowData) → Contains rows r → length (env_of_id I r.now.env) ≡ n

abbrev pub IsJoined : InternerData → ℕ → List ℕ → RowData → EntryData → Type 0
IsJoined I u ks r e = AnyOf (λ (k : ℕ) (x : EntryData). x ≡ joined (opened u (env_of_id I k)) (entry_of I r)) ks e

pub record GainsTypes (I J : InternerData) (old new : List ℕ) (From : TypeTree → Type 0) : Type 0 where
  pub grows : Grows I J
  pub range : AreTypes J new
  pub exact : (t : TypeTree) → Contains (trees_of J new) t ↔ (Contains (trees_of I old) t ⊎ From t)
