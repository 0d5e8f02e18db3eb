use Rattle.hs_check.proofs.Running.{certificate_answers}
use Rattle.hs_check.proofs.verified.verified.Goals as goal

pub returns-in-Ok-clause-answers : goal.returns-in-Ok-clause-answers
returns-in-Ok-clause-answers c =
    certificate_answers c.args.problem.now c.args.bytes.now c.in-Ok.cert c.in-Ok.ensures.cert c.shown_of.result c.shown_of.ensures.shows
