use Rattle.std.proofs.Common.{arith, length, refl}
use Rattle.std.proofs.lemmas.Option.{slice_get_read}
use Rattle.hs_reduce.proofs.GraphLemmas.{in_nodes, head_is}
use Rattle.hs_reduce.proofs.graph.Graph.head.Goals as goal

pub index-requires : goal.index-requires
index-requires c =
    let i = c.self.inside in omega (arith, in_nodes i.links.items i.nodes.items c.args.self.now c.self.view_is c.self.invariant c.args.place c.requires, i.nodes.ok.0)

pub returns : goal.returns
returns c =
    let i = c.self.inside in
    let lt = in_nodes i.links.items i.nodes.items c.args.self.now c.self.view_is c.self.invariant c.args.place c.requires in
    head_is i.links.items i.nodes.items c.args.self.now c.self.view_is c.self.invariant c.args.place c.index.result.now
    (slice_get_read i.nodes.items (length i.nodes.items) c.args.place c.index.result.now refl lt c.index.ensures)
