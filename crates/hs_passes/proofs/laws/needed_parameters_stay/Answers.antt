use Rattle.hs_passes.proofs.UnusedAll.{stays_is}
use Rattle.hs_passes.proofs.laws.needed_parameters_stay.Goals as goal

pub returns : goal.returns
returns c = stays_is
