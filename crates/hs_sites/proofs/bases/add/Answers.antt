use Rattle.hs_sites.proofs.Inserted.{base_added}
use Rattle.hs_sites.proofs.bases.add.Goals as goal

pub returns : goal.returns
returns c = base_added c.args.bases.now.keys c.insert.new.self.keys c.args.base c.in_ok-insert.ensures.keys
