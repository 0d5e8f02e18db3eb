use Rattle.hs_passes.proofs.Settling.{sum_of_few}
use Rattle.hs_passes.proofs.drop_unused.without_unused.Goals as goal

pub of-requires : goal.of-requires
of-requires c = sum_of_few _ _ c.sorted-inside.invariant _ c.as_slice-rules.ensures.value
