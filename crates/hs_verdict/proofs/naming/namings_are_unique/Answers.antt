use Rattle.hs_verdict.proofs.Same.{naming_same}
use Rattle.hs_verdict.proofs.naming.namings_are_unique.Goals as goal

pub returns : goal.returns
returns c = naming_same
