-- Works whose numbers follow one another.
--     work_number        the point or the place of a work
--     work_beyond w k    the work of the same kind whose number is greater by k
--     works_from w n     so many works from this one on
use Rattle.std.specs.Prelude.{ℕ, zero, suc, ◌+◌, List, [], ◌∷◌}
use Rattle.hs_history.specs.declared.step.Work.{Work}
use Rattle.hs_history.specs.declared.step.Work.TheVariants.{Seed, Place}

abbrev pub work_number : Work → ℕ
work_number (Seed point) = point
work_number (Place place) = place

abbrev pub work_beyond : Work → ℕ → Work
work_beyond (Seed point) k = Seed (point + k)
work_beyond (Place place) k = Place (place + k)

abbrev pub works_from : Work → ℕ → List Work
works_from work zero = []
works_from work (suc n) = work ∷ works_from (work_beyond work 1) n
