use Rattle.std.proofs.Common.{ap, length, arith}
use Rattle.std.proofs.lemmas.List.{length-map}
use Rattle.hs_sorts.specs.Cells.{node_in}
use Rattle.hs_sorts.proofs.store.Store.len.Goals as goal

pub returns-clause-len : goal.returns-clause-len
returns-clause-len c = omega (arith, c.len.ensures, c.self.inside.cells.ok.0, ap length c.self.view_is, length-map c.self.inside.cells.items node_in)
