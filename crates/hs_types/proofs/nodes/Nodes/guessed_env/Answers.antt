use Rattle.std.proofs.Common.{arith}
use Rattle.hs_types.specs.Interned.{set_of_id}
use Rattle.hs_types.proofs.AddLemmas.{guessed}
use Rattle.hs_types.proofs.nodes.Nodes.guessed_env.Goals as goal

pub returns : goal.returns
returns c =
    guessed (set_of_id c.args.self.now) c.args.self.now.envs c.args.guess c.sets.result.now c.args.sets.now c.ne.result (omega (arith, c.if-number-count_envs.false, c.number.ensures, c.count_envs.ensures))
    c.sets.ensures.sets c.ne.ensures c.if-ne.false
