use Rattle.hs_cert.proofs.Heads.{no_count}
use Rattle.hs_cert.proofs.heading.count_in.Goals as goal

pub returns-in-None-few_behind-clause-none : goal.returns-in-None-few_behind-clause-none
returns-in-None-few_behind-clause-none c = no_count c.args.line.now c.in-None.ensures.none c.in-None-few_behind.ensures.none
