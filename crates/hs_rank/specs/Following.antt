-- That all which follows at a point, or by an entry, is of a kind, which speaks of the support and of the entry.
--     HasSeedBy p point Is          what follows at the point from no entry
--     HasAtBy p log place point Is  what follows at the point from the entries up to the place, with the entry there among the premises
--     HasPlaceBy p log place Is     the same at each dependent of the point of that entry
use Rattle.std.specs.Prelude.{◌≡◌, ℕ, ◌+◌, List, [], take, slice_get, Some, Contains}
use Rattle.hs_scheme.specs.flow.Dependents.{IsDependent}
use Rattle.hs_scheme.specs.Problem.{ProblemData}
use Rattle.hs_table.specs.Entries.{EntryData}
use Rattle.hs_table.specs.Follows.{Support, FollowsBy, premises}

abbrev pub HasSeedBy : ProblemData → ℕ → (Support → EntryData → Type 0) → Type 0
HasSeedBy p point Is = (s : Support) (e : EntryData) → e.point ≡ point → FollowsBy p [] s e → Is s e

abbrev pub HasAtBy : ProblemData → List EntryData → ℕ → ℕ → (Support → EntryData → Type 0) → Type 0
HasAtBy p log place point Is = (s : Support) (e : EntryData) → e.point ≡ point → FollowsBy p (take (place + 1) log) s e → Contains (premises s) place → Is s e

abbrev pub HasPlaceBy : ProblemData → List EntryData → ℕ → (Support → EntryData → Type 0) → Type 0
HasPlaceBy p log place Is =
    (at e : EntryData) (s : Support) → slice_get log place ≡ Some at → IsDependent p.points p.flow.pairs at.point e.point
    → FollowsBy p (take (place + 1) log) s e → Contains (premises s) place → Is s e
