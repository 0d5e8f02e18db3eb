use Rattle.hs_steps.proofs.Sorted.{step_sorted}
use Rattle.hs_steps.proofs.laws.steps_keep_the_sort.Goals as goal

pub returns : goal.returns
returns c = step_sorted
