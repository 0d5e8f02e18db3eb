use Rattle.std.proofs.Common.{sym, ◌∙◌, ap, subst, List, length, set, arith}
use Rattle.hs_sorts.specs.declared.store.Node.{Node}
use Rattle.hs_sorts.specs.Nodes.{IsStore, NodeInRange}
use Rattle.std.proofs.lemmas.List.{length-map}
use Rattle.hs_sorts.specs.Cells.{node_in, nodes_in}
use Rattle.hs_sorts.proofs.Cells.{written}
use Rattle.hs_sorts.proofs.NodeLemmas.{store_set}
use Rattle.hs_sorts.proofs.store.Store.put.Goals as goal

pub index_mut-requires : goal.index_mut-requires
index_mut-requires c = omega (arith, c.requires.within, c.self.inside.cells.ok.0, ap length c.self.view_is, length-map c.self.inside.cells.items node_in)

pub invariant_of-self : goal.invariant_of-self
invariant_of-self c =
    subst IsStore (sym (written c.self.inside.cells.items c.args.number c.of.result c.args.node c.of.ensures))
    (store_set (nodes_in c.self.inside.cells.items) c.args.number c.args.node (omega (arith, c.requires.within, ap length c.self.view_is)) c.self.invariant
    (subst (λ (xs : List Node). NodeInRange (length xs) c.args.number c.args.node) (sym c.self.view_is) c.requires.in_range))

pub returns : goal.returns
returns c = written c.self.inside.cells.items c.args.number c.of.result c.args.node c.of.ensures ∙ ap (λ (xs : List Node). set xs c.args.number c.args.node) c.self.view_is
