use Rattle.hs_heads.proofs.Gaining.{number_added}
use Rattle.hs_heads.proofs.arrows.add.Goals as goal

pub returns : goal.returns
returns c = number_added c.args.found.now.keys c.insert.new.self.keys c.args.ty c.in_ok-insert.ensures.keys
