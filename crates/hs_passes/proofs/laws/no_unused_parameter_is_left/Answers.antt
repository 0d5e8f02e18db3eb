use Rattle.hs_passes.proofs.UnusedAll.{nothing_left}
use Rattle.hs_passes.proofs.laws.no_unused_parameter_is_left.Goals as goal

pub returns : goal.returns
returns c = nothing_left
