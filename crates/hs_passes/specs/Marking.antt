-- Marking numbers in a list of which are marked.
--     marked ns keep      with these marked, too
--     newly ns keep       those of them that weren't marked before, each once
use Rattle.std.specs.Prelude.{ℕ, Bool, true, List, [], ◌∷◌, ◌++◌, slice_set, if◌then◌else◌}
use Rattle.hs_passes.specs.Selection.{stays}

abbrev pub marked : List ℕ → List Bool → List Bool
marked [] keep = keep
marked (n ∷ ns) keep = marked ns (slice_set keep n true)

abbrev pub newly : List ℕ → List Bool → List ℕ
newly [] keep = []
newly (n ∷ ns) keep = (if stays keep n then [] else n ∷ []) ++ newly ns (slice_set keep n true)
