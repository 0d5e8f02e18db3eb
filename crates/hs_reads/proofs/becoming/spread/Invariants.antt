-- so far what is passed on of those that were taken is there
use Rattle.std.proofs.Common.{◌≡◌, ℕ, ◌-◌, ◌<◌, ◌≤◌, List, length, slice_get, Some, Contains}
use Rattle.hs_scheme.specs.declared.term.Head.TheVariants.{Tm}
use Rattle.hs_scheme.specs.declared.flow.FlowPair.{FlowPair}
use Rattle.hs_weak.specs.Reads.{PointIs}
use Rattle.hs_reads.specs.Becomings.{AnyBecoming, AreShort}
use Rattle.hs_reads.specs.Own.{IsBecoming}
use Rattle.hs_reads.proofs.SpreadLemmas.{IsPassedOn}
use Rattle.hs_reads.proofs.becoming.spread.Given as goal

abbrev pub invariant-loop-becoming : goal.invariant-loop-becoming
invariant-loop-becoming l = record {
  few : length l.found.keys ≤ 4000000;
  first : (f : FlowPair) (rule a : ℕ) (args : List ℕ) → Contains l.problem.flow.pairs f → PointIs l.problem f.point rule (Tm a) args
      → Contains l.found.keys (record { rule = f.rule; param = f.param; terminal = a; given = length args });
  known : (b : AnyBecoming) → Contains l.found.keys b → IsBecoming l.problem b;
  short : AreShort l.found.keys;
  passed : (i : ℕ) (b : AnyBecoming) → i < l.taken → slice_get l.found.keys i ≡ Some b → IsPassedOn l.problem b l.found.keys;
}

abbrev pub decreases-loop-becoming : goal.decreases-loop-becoming
decreases-loop-becoming l = 4000000 - l.taken
