use Rattle.hs_strength.proofs.Memory.{remembers_nothing, remembers_grown}
use Rattle.hs_strength.proofs.laws.what_is_remembered_stays.Goals as goal

pub returns : goal.returns
returns c = record { at_first = remembers_nothing; grown = remembers_grown }
