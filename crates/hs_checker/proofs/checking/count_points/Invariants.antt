-- nothing is missing at the points so far, and their instances are counted
use Rattle.std.proofs.Common.{◌<◌, Contains}
use Rattle.hs_table.specs.Entries.{EntryData}
use Rattle.hs_table.specs.Follows.{Follows}
use Rattle.hs_types.specs.Interned.{Grows}
use Rattle.hs_checker.specs.Numbers.{entries_of}
use Rattle.hs_checker.proofs.CountLemmas.{CountedBelow}
use Rattle.hs_checker.proofs.checking.count_points.Given as goal

abbrev pub invariant-loop-point : goal.invariant-loop-point
invariant-loop-point l = record {
  grows : Grows l.fn.types l.types;
  closed : (e : EntryData) → e.point < l.point → Follows l.problem (entries_of l.fn.types l.index) e → Contains (entries_of l.fn.types l.index) e;
  counted : CountedBelow l.problem (entries_of l.fn.types l.index) l.point l.count;
}
