use Rattle.hs_choices.proofs.Staying.{numbered_stays}
use Rattle.hs_choices.proofs.laws.what_is_numbered_stays.Goals as goal

pub returns : goal.returns
returns c = numbered_stays
