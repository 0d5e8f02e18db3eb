use Rattle.std.proofs.Common.{arith, length, refl, ◌∙◌, ap, sym, subst, List, ℕ}
use Rattle.std.proofs.lemmas.Option.{slice_get_read}
use Rattle.hs_reduce.specs.Graph.{term_at, arguments_of, places_of, NamesTerms}
use Rattle.hs_reduce.proofs.GraphLemmas.{in_nodes, arguments_are}
use Rattle.hs_reduce.proofs.graph.Graph.arguments.Goals as goal

pub index-node-requires : goal.index-node-requires
index-node-requires c =
    let i = c.self.inside in omega (arith, in_nodes i.links.items i.nodes.items c.args.self.now c.self.view_is c.self.invariant c.args.place c.requires, i.nodes.ok.0)

pub part-requires : goal.part-requires
part-requires c =
    let i = c.self.inside in
    let lt = in_nodes i.links.items i.nodes.items c.args.self.now c.self.view_is c.self.invariant c.args.place c.requires in
    let is = c.self.invariant c.args.place c.index-node.result.now (slice_get_read i.nodes.items (length i.nodes.items) c.args.place c.index-node.result.now refl lt c.index-node.ensures) in
    record { ordered = is.ordered; within = omega (arith, is.within, ap length c.as_slice.ensures.value) }

pub returns : goal.returns
returns c =
    let i = c.self.inside in
    let trees = c.args.self.now in
    let lt = in_nodes i.links.items i.nodes.items trees c.self.view_is c.self.invariant c.args.place c.requires in
    let at = slice_get_read i.nodes.items (length i.nodes.items) c.args.place c.index-node.result.now refl lt c.index-node.ensures in
    subst (λ (ps : List ℕ). NamesTerms trees ps (arguments_of (term_at trees c.args.place))) (sym (c.part.ensures ∙ ap (λ ls. places_of ls c.index-node.result.now) c.as_slice.ensures.value))
    (arguments_are i.links.items i.nodes.items trees c.self.view_is c.self.invariant c.args.place c.index-node.result.now at)
