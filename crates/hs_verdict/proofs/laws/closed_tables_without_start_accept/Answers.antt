use Rattle.hs_verdict.proofs.Verdict.{accepts_without_start}
use Rattle.hs_verdict.proofs.laws.closed_tables_without_start_accept.Goals as goal

pub returns : goal.returns
returns c = λ p T given closed table. accepts_without_start p given closed T table
