-- what the rows so far say
use Rattle.std.proofs.Common.{take}
use Rattle.hs_heads.specs.Sources.{GainsTypes, FromSome, BodySays}
use Rattle.hs_heads.proofs.rows.add_bodies.Given as goal

abbrev pub invariant-loop-row : goal.invariant-loop-row
invariant-loop-row l = GainsTypes l.fn.types l.types l.fn.found.keys l.found.keys (FromSome (BodySays l.fn.types l.reads l.point) (take l.row-index l.rows))
