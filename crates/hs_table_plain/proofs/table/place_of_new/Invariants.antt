-- those so far are in the list
use Rattle.std.proofs.Common.{take, Contains}
use Rattle.hs_table.specs.Entries.{EntryData}
use Rattle.hs_table_plain.proofs.table.place_of_new.Given as goal

abbrev pub invariant-loop-place : goal.invariant-loop-place
invariant-loop-place l = (e : EntryData) → Contains (take l.place l.entries) e → Contains l.log e
