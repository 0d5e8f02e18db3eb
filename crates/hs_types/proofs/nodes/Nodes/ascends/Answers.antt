use Rattle.std.proofs.Common.{arith}
use Rattle.hs_types.specs.Interned.{type_of_id}
use Rattle.hs_types.proofs.MakeLemmas.{ascend_all}
use Rattle.hs_types.proofs.nodes.Nodes.ascends.Goals as goal

pub loop-place-init : goal.loop-place-init
loop-place-init c = λ j lt. absurd (omega (arith, lt))

pub returns : goal.returns
returns c said = ascend_all (type_of_id c.args.self.now) c.args.ids.now c.loop-place.place (omega (arith, c.loop-place-test.false)) c.loop-place.invariant
