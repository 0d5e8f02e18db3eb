use Rattle.std.proofs.Common.{arith}
use Rattle.hs_reader.proofs.Begun.{depth-is}
use Rattle.hs_reader.proofs.building.Building.depth.Goals as goal

pub returns : goal.returns
returns c =
    let is = depth-is c.self.inside.nodes.items c.self.inside.outer.items c.self.inside.start c.args.self.now c.self.view_is in omega (arith, c.len.ensures, is)
