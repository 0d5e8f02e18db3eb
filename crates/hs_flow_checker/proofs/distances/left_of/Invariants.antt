-- the bases that aren't left are found, and there is a pair at the place
use Rattle.std.proofs.Common.{◌<◌, Contains, ◌⊎◌, length}
use Rattle.hs_scheme.specs.declared.flow.HeadPair.{HeadPair}
use Rattle.hs_flow_checker.specs.PassedOn.{HasPassed}
use Rattle.hs_flow_checker.proofs.distances.left_of.Given as goal

abbrev pub invariant-loop-base : goal.invariant-loop-base
invariant-loop-base l = record {
  within : l.place < length l.pairs;
  part : (h : HeadPair) → Contains l.left h → Contains l.bases h;
  rest : (h : HeadPair) → Contains l.bases h → Contains l.left h ⊎ HasPassed l.pairs h l.number l.arg;
}

abbrev pub decreases-loop-base : goal.decreases-loop-base
decreases-loop-base l = length l.left
