use Rattle.hs_flow.proofs.BaseLemmas.{others_more, others_new}
use Rattle.hs_flow.proofs.bases.add_other.Goals as goal

pub returns-clause-bases : goal.returns-clause-bases
returns-clause-bases c = others_more c.args.others.now.keys c.insert.new.self.keys c.args.base c.in_ok-added.added c.in_ok-added.ensures.keys c.in_ok-added.ensures.added

pub returns-clause-new : goal.returns-clause-new
returns-clause-new c = others_new c.args.others.now.keys c.insert.new.self.keys c.args.base c.in_ok-added.added c.in_ok-added.ensures.keys c.in_ok-added.ensures.added
