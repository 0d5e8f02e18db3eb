-- What contracts see of a replica: a log of entries without repeats, with the interner that reads its rows.
--     spare               so many entries can be added without memory
--     indexed             the look-ups tell of the first so many entries
--     by_type             for each point a number, as `typed_to` reads it
--     typed_to r point    of the entries at the point the look-ups by type tell of those among the first so many
--     IsReplica           so it is for each replica
--     ListsMore old new   look-ups by type may tell of more, and all else stays
--     KeepsLog old new    the interner may have grown, and look-ups by type may tell of more; all else stays
use Rattle.std.specs.Prelude.{◌≡◌, ◌≢◌, refl, ℕ, ◌<◌, ◌≤◌, ◌^◌, List, length, slice_index_or, AllPairs}
use Rattle.std.specs.Coded.{Coded, code_by, coded×, coded_ℕ, coded_list}
use Rattle.hs_table.specs.Entries.{EntryData, coded_entry}
use Rattle.hs_types.specs.Interned.{InternerData, coded_interner, Grows}

pub record ReplicaData : Type 0 where
  pub ids : InternerData
  pub log : List EntryData
  pub spare : ℕ
  pub indexed : ℕ
  pub by_type : List ℕ

abbrev pub coded_replica : Coded ReplicaData
coded_replica =
    code_by (InternerData × (List EntryData × (ℕ × (ℕ × List ℕ)))) (coded× coded_interner (coded× (coded_list coded_entry) (coded× coded_ℕ (coded× coded_ℕ (coded_list coded_ℕ)))))
    (λ r. (r.ids, (r.log, (r.spare, (r.indexed, r.by_type))))) (λ p. record { ids = p.0; log = p.1.0; spare = p.1.1.0; indexed = p.1.1.1.0; by_type = p.1.1.1.1 }) (λ _. refl)

abbrev pub typed_to : ReplicaData → ℕ → ℕ
typed_to r point = slice_index_or r.by_type point 0

pub record IsReplica (r : ReplicaData) : Type 0 where
  pub distinct : AllPairs (λ a b. a ≢ b) r.log
  pub short : length r.log < 2 ^ 32
  pub indexed : r.indexed ≤ length r.log
  pub typed : (point : ℕ) → typed_to r point ≤ r.indexed

pub record ListsMore (old new : ReplicaData) : Type 0 where
  pub same : new ≡ record old { by_type = new.by_type }
  pub more : (point : ℕ) → typed_to old point ≤ typed_to new point

pub record KeepsLog (old new : ReplicaData) : Type 0 where
  pub log : new.log ≡ old.log
  pub spare : new.spare ≡ old.spare
  pub indexed : new.indexed ≡ old.indexed
  pub typed : (point : ℕ) → typed_to old point ≤ typed_to new point
  pub grows : Grows old.ids new.ids
