use Rattle.hs_steps.proofs.Refusal.{stuck_refused, step_refused, refused_only}
use Rattle.hs_steps.proofs.laws.refusals_have_a_first_step.Goals as goal

pub returns : goal.returns
returns c = record { stuck = stuck_refused; step = step_refused; only = refused_only }
