use Rattle.hs_app.proofs.DecidingLemmas.{is_over}
use Rattle.hs_app.proofs.deciding.over.Goals as goal

pub returns : goal.returns
returns c = λ removed. is_over c.args.problem.now c.args.settings c.args.core.now c.know_core.ensures c.requires.sorted c.requires.shared c.requires.answer
