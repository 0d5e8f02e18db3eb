-- nothing is missing at the points so far
use Rattle.std.proofs.Common.{◌<◌, Contains}
use Rattle.hs_table.specs.Entries.{EntryData}
use Rattle.hs_table.specs.Follows.{Follows}
use Rattle.hs_table_plain.proofs.table.missing.Given as goal

abbrev pub invariant-loop-point : goal.invariant-loop-point
invariant-loop-point l = (e : EntryData) → e.point < l.point → Follows l.problem l.log e → Contains l.log e
