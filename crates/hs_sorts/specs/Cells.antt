-- How nodes are kept.
use Rattle.std.specs.Prelude.{List, map}
use Rattle.hs_sorts.specs.declared.store.Shape.TheVariants as shapes
use Rattle.hs_sorts.specs.declared.store.Node.{Node}
use Rattle.hs_sorts.specs.declared.store.Node.TheVariants as nodes
use Rattle.hs_sorts.specs.declared.store.Cell.{Cell}
use Rattle.hs_sorts.specs.declared.store.Cell.TheVariants.{Open, Base, Arrow, Link}

abbrev pub node_in : Cell → Node
node_in Open = nodes.Root shapes.Open
node_in Base = nodes.Root shapes.Base
node_in (Arrow a b) = nodes.Root (shapes.Arrow a b)
node_in (Link up) = nodes.Link up

abbrev pub nodes_in : List Cell → List Node
nodes_in cells = map node_in cells
