use Rattle.hs_gen.proofs.Short.{cycle_short}
use Rattle.hs_gen.proofs.cycle.cycle_files_are_short.Goals as goal

pub returns : goal.returns
returns c = cycle_short
