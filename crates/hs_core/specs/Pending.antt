-- Pending works in stretches.
--     PendingData     what contracts see: the works, and for how many more there is room
--     stretch_works   the works of a stretch
--     works_in        those of stretches, one stretch after another
use Rattle.std.specs.Prelude.{ℕ, suc, List}
use Rattle.std.specs.List.{flat_map}
use Rattle.hs_history.specs.declared.step.Work.{Work}
use Rattle.hs_core.specs.declared.pending.Stretch.{Stretch}
use Rattle.hs_core.specs.Works.{works_from}

pub record PendingData : Type 0 where
  pub works : List Work
  pub room : ℕ

abbrev pub stretch_works : Stretch → List Work
stretch_works stretch = works_from stretch.first (suc stretch.others)

abbrev pub works_in : List Stretch → List Work
works_in stretches = flat_map stretch_works stretches
