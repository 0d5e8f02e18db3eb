use Rattle.hs_verdict.proofs.Verdict.{accepted, never_fails}
use Rattle.hs_verdict.proofs.laws.acceptance_is_no_failing_path.Goals as goal

pub returns : goal.returns
returns c = λ p given. (never_fails p given, accepted p given)
