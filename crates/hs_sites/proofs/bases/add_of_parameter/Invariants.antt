-- what the flow pairs so far lead to
use Rattle.std.proofs.Common.{take}
use Rattle.hs_sites.specs.Collecting.{AddsTo}
use Rattle.hs_sites.proofs.Adding.{ByAny}
use Rattle.hs_sites.proofs.Collected.{IsBaseBy}
use Rattle.hs_sites.proofs.bases.add_of_parameter.Given as goal

abbrev pub invariant-loop-pair : goal.invariant-loop-pair
invariant-loop-pair l = AddsTo (ByAny (take l.pair-index l.pair-items) (IsBaseBy l.problem.flow.heads)) l.initial.bases.keys l.bases.keys
