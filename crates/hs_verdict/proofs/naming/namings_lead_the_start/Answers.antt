use Rattle.hs_verdict.proofs.Ending.{start_leads}
use Rattle.hs_verdict.proofs.naming.namings_lead_the_start.Goals as goal

pub returns : goal.returns
returns c = λ p T supports known log has. start_leads p known T supports log has
