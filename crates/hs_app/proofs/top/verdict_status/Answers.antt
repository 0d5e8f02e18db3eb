use Rattle.std.proofs.Common.{ap, sym}
use Rattle.hs_app.specs.Outcome.{status_of_verdict}
use Rattle.hs_app.proofs.top.verdict_status.Goals as goal

pub returns-in-Accepted : goal.returns-in-Accepted
returns-in-Accepted c = ap status_of_verdict (sym c.in-Accepted.is)

pub returns-in-Rejected : goal.returns-in-Rejected
returns-in-Rejected c = ap status_of_verdict (sym c.in-Rejected.is)

pub returns-in-Long : goal.returns-in-Long
returns-in-Long c = ap status_of_verdict (sym c.in-Long.is)
