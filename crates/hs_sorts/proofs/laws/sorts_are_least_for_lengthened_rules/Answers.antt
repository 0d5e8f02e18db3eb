use Rattle.hs_sorts.proofs.Shortened.{inferred_least}
use Rattle.hs_sorts.proofs.laws.sorts_are_least_for_lengthened_rules.Goals as goal

pub returns : goal.returns
returns c = inferred_least
