use Rattle.hs_certificate_checker.proofs.FaultLemmas.{no_fault}
use Rattle.hs_certificate_checker.proofs.laws.certificates_have_no_fault.Goals as goal

pub returns : goal.returns
returns c = no_fault
