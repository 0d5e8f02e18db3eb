use Rattle.hs_passes.proofs.FoldedAll.{no_alias_left}
use Rattle.hs_passes.proofs.laws.no_alias_is_left.Goals as goal

pub returns : goal.returns
returns c = no_alias_left
