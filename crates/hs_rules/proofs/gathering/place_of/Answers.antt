use Rattle.hs_rules.proofs.PartLemmas.{argument_other, argument_only}
use Rattle.hs_rules.proofs.gathering.place_of.Goals as goal

pub returns-then-whose-point : goal.returns-then-whose-point
returns-then-whose-point c = argument_other c.args.points.now c.argument_of.result c.args.point c.args.argument c.argument_of.ensures c.in_ok-whose.whose c.in_ok-whose.was c.if-whose-point.true

pub returns : goal.returns
returns c = argument_only c.args.points.now c.argument_of.result c.args.point c.args.argument c.argument_of.ensures c.in_ok-whose.whose c.in_ok-whose.was c.if-whose-point.false
