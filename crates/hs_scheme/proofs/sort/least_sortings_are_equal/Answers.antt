use Rattle.hs_scheme.proofs.Sortings.{least_unique}
use Rattle.hs_scheme.proofs.sort.least_sortings_are_equal.Goals as goal

pub returns : goal.returns
returns c = least_unique
