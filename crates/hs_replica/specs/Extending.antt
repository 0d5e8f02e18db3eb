-- A log that is to grow by rows.
--     extended r rows     the log with the entries of these rows behind it
--     CanExtend r rows    it is a log, too, for which there is room
use Rattle.std.specs.Prelude.{◌≢◌, ◌<◌, ◌≤◌, ◌^◌, List, ◌++◌, length, map, All, AllPairs}
use Rattle.hs_table.specs.Entries.{EntryData}
use Rattle.hs_types.specs.Interned.{RowData, IsRow, entry_of}
use Rattle.hs_replica.specs.Replica.{ReplicaData}

abbrev pub extended : ReplicaData → List RowData → List EntryData
extended r rows = r.log ++ map (entry_of r.ids) rows

pub record CanExtend (r : ReplicaData) (rows : List RowData) : Type 0 where
  pub known : All (IsRow r.ids) rows
  pub distinct : AllPairs (λ a b. a ≢ b) (extended r rows)
  pub short : length (extended r rows) < 2 ^ 32
  pub room : length rows ≤ r.spare
