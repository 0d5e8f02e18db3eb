use Rattle.std.proofs.Common.{sym, subst, List, length, arith}
use Rattle.hs_sorts.specs.declared.store.Node.{Node}
use Rattle.hs_sorts.specs.declared.store.Node.TheVariants.{Root}
use Rattle.hs_sorts.specs.Nodes.{IsStore, ShapeInRange}
use Rattle.std.proofs.lemmas.List.{length-map}
use Rattle.hs_sorts.specs.Cells.{node_in, nodes_in}
use Rattle.hs_sorts.proofs.Cells.{pushed}
use Rattle.hs_sorts.proofs.NodeLemmas.{store_more}
use Rattle.hs_sorts.proofs.store.Store.add.Goals as goal

pub invariant_of-self-2 : goal.invariant_of-self-2
invariant_of-self-2 c =
    subst IsStore (sym (pushed c.self.inside.cells.items c.push.new.self.items c.of.result (Root c.args.shape) c.in_ok-push.ensures.items c.of.ensures))
    (store_more (nodes_in c.self.inside.cells.items) c.args.shape (omega (arith, c.in-Ok.ensures, c.len.ensures, c.self.inside.cells.ok.0, length-map c.self.inside.cells.items node_in)) c.self.invariant
    (subst (λ (xs : List Node). ShapeInRange (length xs) c.args.shape) (sym c.self.view_is) c.requires))
