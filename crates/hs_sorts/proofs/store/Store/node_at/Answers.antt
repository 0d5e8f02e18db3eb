use Rattle.std.proofs.Common.{ap, length, arith}
use Rattle.std.proofs.lemmas.List.{length-map}
use Rattle.hs_sorts.specs.Cells.{node_in}
use Rattle.hs_sorts.proofs.Cells.{read_at}
use Rattle.hs_sorts.proofs.store.Store.node_at.Goals as goal

pub index-requires : goal.index-requires
index-requires c = omega (arith, c.requires, c.self.inside.cells.ok.0, ap length c.self.view_is, length-map c.self.inside.cells.items node_in)

pub returns-clause-node : goal.returns-clause-node
returns-clause-node c = read_at c.self.inside.cells.items c.args.self.now c.args.number c.index.result.now c.node.result c.self.view_is c.requires c.index.ensures c.node.ensures
