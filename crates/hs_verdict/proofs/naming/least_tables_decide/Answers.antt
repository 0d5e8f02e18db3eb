use Rattle.hs_verdict.proofs.Deciding.{least_decides}
use Rattle.hs_verdict.proofs.naming.least_tables_decide.Goals as goal

pub returns : goal.returns
returns c = least_decides
