use Rattle.hs_types.specs.Nodes.{lists_of}
use Rattle.hs_types.proofs.NodeLemmas.{envs_more, read_env}
use Rattle.hs_types.proofs.nodes.Nodes.add_env.Goals as goal

pub invariant_of-self : goal.invariant_of-self
invariant_of-self c = (envs_more c.self.inside.types.keys (lists_of c.self.inside.sets.keys) (lists_of c.self.inside.envs.keys) c.self.invariant c.args.self.now c.self.view_is (lists_of c.add_env.new.envs.keys) c.args.sets.now c.requires c.add_env.ensures.adds).are

pub returns-in_err-place-clause-grows : goal.returns-in_err-place-clause-grows
returns-in_err-place-clause-grows c = (envs_more c.self.inside.types.keys (lists_of c.self.inside.sets.keys) (lists_of c.self.inside.envs.keys) c.self.invariant c.args.self.now c.self.view_is (lists_of c.add_env.new.envs.keys) c.args.sets.now c.requires c.add_env.ensures.adds).grows

pub invariant_of-self-2 : goal.invariant_of-self-2
invariant_of-self-2 c = (envs_more c.self.inside.types.keys (lists_of c.self.inside.sets.keys) (lists_of c.self.inside.envs.keys) c.self.invariant c.args.self.now c.self.view_is (lists_of c.add_env.new.envs.keys) c.args.sets.now c.requires c.add_env.ensures.adds).are

pub returns-clause-ok : goal.returns-clause-ok
returns-clause-ok c = rw c.at.ensures (read_env c.args.self.now c.self.inside.types.keys (lists_of c.self.inside.sets.keys) (lists_of c.add_env.new.envs.keys) (envs_more c.self.inside.types.keys (lists_of c.self.inside.sets.keys) (lists_of c.self.inside.envs.keys) c.self.invariant c.args.self.now c.self.view_is (lists_of c.add_env.new.envs.keys) c.args.sets.now c.requires c.add_env.ensures.adds) c.in_ok-place.place c.args.sets.now c.requires c.in_ok-place.ensures.at)

pub returns-clause-grows : goal.returns-clause-grows
returns-clause-grows c = (envs_more c.self.inside.types.keys (lists_of c.self.inside.sets.keys) (lists_of c.self.inside.envs.keys) c.self.invariant c.args.self.now c.self.view_is (lists_of c.add_env.new.envs.keys) c.args.sets.now c.requires c.add_env.ensures.adds).grows
