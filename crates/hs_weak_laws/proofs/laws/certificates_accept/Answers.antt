use Rattle.hs_weak_laws.proofs.Verdict.{certificate_accepts}
use Rattle.hs_weak_laws.proofs.laws.certificates_accept.Goals as goal

pub returns : goal.returns
returns c = λ p C V R given closed it. certificate_accepts p given closed C V R it
