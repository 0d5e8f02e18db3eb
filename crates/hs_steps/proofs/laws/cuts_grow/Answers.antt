use Rattle.hs_steps.proofs.Refusal.{refused_longer}
use Rattle.hs_steps.proofs.laws.cuts_grow.Goals as goal

pub returns : goal.returns
returns c = refused_longer
