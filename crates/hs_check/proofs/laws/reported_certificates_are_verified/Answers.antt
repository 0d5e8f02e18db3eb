use Rattle.hs_check.proofs.Reported.{certificate_answers}
use Rattle.hs_check.proofs.laws.reported_certificates_are_verified.Goals as goal

pub returns : goal.returns
returns c = certificate_answers
