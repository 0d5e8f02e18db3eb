use Rattle.hs_types.specs.Nodes.{lists_of}
use Rattle.hs_types.proofs.NodeLemmas.{types_more, read_type}
use Rattle.hs_types.proofs.nodes.Nodes.add_type.Goals as goal

pub invariant_of-self : goal.invariant_of-self
invariant_of-self c = (types_more c.self.inside.types.keys (lists_of c.self.inside.sets.keys) (lists_of c.self.inside.envs.keys) c.self.invariant c.args.self.now c.self.view_is c.add_node.new.types.keys c.args.node c.requires c.add_node.ensures.adds).are

pub returns-in_err-place-clause-grows : goal.returns-in_err-place-clause-grows
returns-in_err-place-clause-grows c = (types_more c.self.inside.types.keys (lists_of c.self.inside.sets.keys) (lists_of c.self.inside.envs.keys) c.self.invariant c.args.self.now c.self.view_is c.add_node.new.types.keys c.args.node c.requires c.add_node.ensures.adds).grows

pub invariant_of-self-2 : goal.invariant_of-self-2
invariant_of-self-2 c = (types_more c.self.inside.types.keys (lists_of c.self.inside.sets.keys) (lists_of c.self.inside.envs.keys) c.self.invariant c.args.self.now c.self.view_is c.add_node.new.types.keys c.args.node c.requires c.add_node.ensures.adds).are

pub returns-clause-ok : goal.returns-clause-ok
returns-clause-ok c = rw c.at.ensures (read_type c.args.self.now c.add_node.new.types.keys (lists_of c.self.inside.sets.keys) (lists_of c.self.inside.envs.keys) (types_more c.self.inside.types.keys (lists_of c.self.inside.sets.keys) (lists_of c.self.inside.envs.keys) c.self.invariant c.args.self.now c.self.view_is c.add_node.new.types.keys c.args.node c.requires c.add_node.ensures.adds) c.in_ok-place.place c.args.node c.requires c.in_ok-place.ensures.at)

pub returns-clause-grows : goal.returns-clause-grows
returns-clause-grows c = (types_more c.self.inside.types.keys (lists_of c.self.inside.sets.keys) (lists_of c.self.inside.envs.keys) c.self.invariant c.args.self.now c.self.view_is c.add_node.new.types.keys c.args.node c.requires c.add_node.ensures.adds).grows
