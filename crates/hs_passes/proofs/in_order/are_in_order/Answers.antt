use Rattle.std.proofs.Common.{arith}
use Rattle.hs_passes.specs.Order.{rank_of}
use Rattle.hs_passes.proofs.InOrder.{rules_more}
use Rattle.hs_passes.proofs.in_order.are_in_order.Goals as goal

pub loop-i-preserved : goal.loop-i-preserved
loop-i-preserved c =
    rules_more (rank_of c.args.parameters.now c.args.ranks.now) c.args.rules.now c.loop-i.i c.index-rules-i.result c.loop-i-test.true c.index-rules-i.is c.loop-i.invariant
    (c.is_in_order.ensures c.if-not-is_in_order.false)

pub returns : goal.returns
returns c = λ e g r lt at. c.loop-i.invariant g r (omega (arith, lt, c.loop-i-test.false)) at
