-- The table that is reported.
use Rattle.std.proofs.Common.{◌≡◌, Bool, true, false, List}
use Rattle.hs_scheme.specs.Problem.{ProblemData}
use Rattle.hs_table.specs.Entries.{EntryData}
use Rattle.hs_table.specs.Tables.{IsSupportedTable, IsLeastTable, HasStart}
use Rattle.hs_app.specs.Problems.{IsReportedTable}

-- the table that is reported where the log has the start entry, whether or not the first start entry was asked for
pub reported_least : (first : Bool) (p : ProblemData) (T : List EntryData) → first ≡ false → IsLeastTable p T → HasStart p T → IsReportedTable first p T
reported_least false p T all least start = (least, start)
reported_least true p T all least start = absurd (cc)

pub reported_first : (first : Bool) (p : ProblemData) (T : List EntryData) → first ≡ true → IsSupportedTable p T → HasStart p T → IsReportedTable first p T
reported_first false p T is table start = absurd (cc)
reported_first true p T is table start = (table, start)
