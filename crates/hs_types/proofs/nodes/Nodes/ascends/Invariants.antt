-- so many types ascend
use Rattle.hs_types.specs.Interned.{type_of_id}
use Rattle.hs_types.proofs.MakeLemmas.{AscendTo}
use Rattle.hs_types.proofs.nodes.Nodes.ascends.Given as goal

abbrev pub invariant-loop-place : goal.invariant-loop-place
invariant-loop-place l = AscendTo (type_of_id l.self) l.ids l.place
