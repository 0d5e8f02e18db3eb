use Rattle.std.proofs.Common.{arith}
use Rattle.hs_types.proofs.MakeLemmas.{is_empty}
use Rattle.hs_types.proofs.nodes.Nodes.is_empty_env.Goals as goal

pub returns : goal.returns
returns c said =
    is_empty c.args.self.now c.args.id c.args.n c.loop-set.set-index c.sets-sets.result.now (omega (arith, c.if-number-count_envs.false, c.number.ensures, c.count_envs.ensures)) c.sets-sets.ensures.sets
    (omega (arith, c.if-sets-n.false)) (omega (arith, c.loop-set-test.false)) c.loop-set.invariant
