use Rattle.hs_cert.proofs.Clear.{certificate_report_certificate}
use Rattle.hs_cert.proofs.laws.certificate_report_is_certificate.Goals as goal

pub returns : goal.returns
returns c = certificate_report_certificate
