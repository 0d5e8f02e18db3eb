-- what the rows at the points so far say
use Rattle.std.proofs.Common.{take}
use Rattle.hs_scheme.specs.declared.flow.FlowPair.{FlowPair}
use Rattle.hs_heads.specs.Sources.{GainsTypes, FromSome, FlowSays, AtRow}
use Rattle.hs_heads.proofs.rows.add_flow.Given as goal

abbrev pub invariant-loop-pair : goal.invariant-loop-pair
invariant-loop-pair l =
    GainsTypes l.types l.types l.fn.found.keys l.found.keys (FromSome (λ (d : FlowPair). AtRow (FlowSays l.types l.reads l.point) l.table d.point) (take l.pair-index l.pairs))
