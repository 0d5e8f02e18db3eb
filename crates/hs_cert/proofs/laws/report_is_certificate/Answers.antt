use Rattle.hs_cert.proofs.Clear.{report_certificate}
use Rattle.hs_cert.proofs.laws.report_is_certificate.Goals as goal

pub returns : goal.returns
returns c = report_certificate
