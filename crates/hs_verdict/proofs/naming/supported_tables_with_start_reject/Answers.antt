use Rattle.hs_verdict.proofs.Ending.{supported_rejects}
use Rattle.hs_verdict.proofs.naming.supported_tables_with_start_reject.Goals as goal

pub returns : goal.returns
returns c = λ p T known supported has accepts. supported_rejects p known T supported has accepts
