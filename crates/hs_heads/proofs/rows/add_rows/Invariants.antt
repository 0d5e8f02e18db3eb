-- what the rows so far say
use Rattle.std.proofs.Common.{take}
use Rattle.hs_heads.specs.Sources.{GainsTypes, FromSome, FlowSays}
use Rattle.hs_heads.proofs.rows.add_rows.Given as goal

abbrev pub invariant-loop-row : goal.invariant-loop-row
invariant-loop-row l = GainsTypes l.types l.types l.fn.found.keys l.found.keys (FromSome (FlowSays l.types l.reads l.point) (take l.row-index l.rows))
