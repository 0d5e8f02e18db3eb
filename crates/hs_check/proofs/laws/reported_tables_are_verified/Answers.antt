use Rattle.hs_check.proofs.Reported.{reported_answers}
use Rattle.hs_check.proofs.laws.reported_tables_are_verified.Goals as goal

pub returns : goal.returns
returns c = reported_answers
