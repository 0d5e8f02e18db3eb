use Rattle.std.proofs.Common.{arith}
use Rattle.hs_table_laws.proofs.Places.{within_from}
use Rattle.hs_flow_checker.proofs.gaps.most_of.Goals as goal

pub returns : goal.returns
returns c = λ k r at. c.loop-rule.invariant k r (omega (arith, within_from c.args.rules.now k r at, c.loop-rule-test.false)) at
