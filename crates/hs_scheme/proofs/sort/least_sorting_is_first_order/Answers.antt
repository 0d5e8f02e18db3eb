use Rattle.hs_scheme.proofs.Sortings.{least_first_order}
use Rattle.hs_scheme.proofs.sort.least_sorting_is_first_order.Goals as goal

pub returns : goal.returns
returns c = least_first_order
