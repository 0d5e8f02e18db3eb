use Rattle.hs_types.specs.Nodes.{lists_of}
use Rattle.hs_types.proofs.NodeLemmas.{sets_more, read_set}
use Rattle.hs_types.proofs.nodes.Nodes.add_set.Goals as goal

pub invariant_of-self : goal.invariant_of-self
invariant_of-self c = (sets_more c.self.inside.types.keys (lists_of c.self.inside.sets.keys) (lists_of c.self.inside.envs.keys) c.self.invariant c.args.self.now c.self.view_is (lists_of c.add_set.new.sets.keys) c.args.types.now c.requires.range c.requires.ascends c.add_set.ensures.adds).are

pub returns-in_err-place-clause-grows : goal.returns-in_err-place-clause-grows
returns-in_err-place-clause-grows c = (sets_more c.self.inside.types.keys (lists_of c.self.inside.sets.keys) (lists_of c.self.inside.envs.keys) c.self.invariant c.args.self.now c.self.view_is (lists_of c.add_set.new.sets.keys) c.args.types.now c.requires.range c.requires.ascends c.add_set.ensures.adds).grows

pub invariant_of-self-2 : goal.invariant_of-self-2
invariant_of-self-2 c = (sets_more c.self.inside.types.keys (lists_of c.self.inside.sets.keys) (lists_of c.self.inside.envs.keys) c.self.invariant c.args.self.now c.self.view_is (lists_of c.add_set.new.sets.keys) c.args.types.now c.requires.range c.requires.ascends c.add_set.ensures.adds).are

pub returns-clause-ok : goal.returns-clause-ok
returns-clause-ok c = rw c.at.ensures (read_set c.args.self.now c.self.inside.types.keys (lists_of c.add_set.new.sets.keys) (lists_of c.self.inside.envs.keys) (sets_more c.self.inside.types.keys (lists_of c.self.inside.sets.keys) (lists_of c.self.inside.envs.keys) c.self.invariant c.args.self.now c.self.view_is (lists_of c.add_set.new.sets.keys) c.args.types.now c.requires.range c.requires.ascends c.add_set.ensures.adds) c.in_ok-place.place c.args.types.now c.requires.range c.in_ok-place.ensures.at)

pub returns-clause-grows : goal.returns-clause-grows
returns-clause-grows c = (sets_more c.self.inside.types.keys (lists_of c.self.inside.sets.keys) (lists_of c.self.inside.envs.keys) c.self.invariant c.args.self.now c.self.view_is (lists_of c.add_set.new.sets.keys) c.args.types.now c.requires.range c.requires.ascends c.add_set.ensures.adds).grows
