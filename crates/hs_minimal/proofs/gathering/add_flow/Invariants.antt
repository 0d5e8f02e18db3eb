-- those at the points so far
use Rattle.std.proofs.Common.{take}
use Rattle.hs_scheme.specs.declared.flow.FlowPair.{FlowPair}
use Rattle.hs_minimal.specs.Following.{AddsRowsOf}
use Rattle.hs_minimal.proofs.GatheringLemmas.{OfSome}
use Rattle.hs_minimal.proofs.gathering.add_flow.Given as goal

abbrev pub invariant-loop-pair : goal.invariant-loop-pair
invariant-loop-pair l = AddsRowsOf l.growing (OfSome l.growing (λ (f : FlowPair). f.point) l.pairs l.fn.rows.items (take l.pair-index l.pairs)) l.fn.rows.items l.rows.items
