use Rattle.hs_steps.proofs.PathLemmas.{same_end, same_failure}
use Rattle.hs_steps.proofs.paths.steps_are_determined.Goals as goal

pub returns : goal.returns
returns c = record { reaching = same_end; failing = same_failure }
