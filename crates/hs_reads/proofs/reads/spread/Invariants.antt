-- so far what the pairs that were taken demand is there
use Rattle.std.proofs.Common.{◌+◌, ◌-◌, ◌≤◌, length}
use Rattle.hs_reads.specs.ByPoint.{pairs_by_point}
use Rattle.hs_reads.specs.Pairs.{HasStart, AreNeeded, AreHanded}
use Rattle.hs_reads.proofs.FoundLemmas.{AreTaken}
use Rattle.hs_reads.proofs.reads.spread.Given as goal

abbrev pub invariant-loop-point : goal.invariant-loop-point
invariant-loop-point l = record {
  few : length l.found.pairs ≤ 4000000;
  start : HasStart l.problem l.found.pairs;
  needed : AreNeeded l.problem l.found.pairs;
  each : AreTaken l.problem l.found;
  handed : AreHanded l.problem (pairs_by_point l.handed.items) l.found.pairs;
}

abbrev pub decreases-loop-point : goal.decreases-loop-point
decreases-loop-point l = 4000000 + length l.found.waiting - length l.found.pairs
