-- That all which follows at a point, by an entry, or by a work, is of a kind.
--     HasSeed p point Is          what follows at the point from no entry
--     HasAt p log place point Is  what follows at the point from the entries up to the place, with the entry there among the premises
--     HasPlace p log place Is     the same at each dependent of the point of that entry
--     HasWork p log work Is       what follows by the work: of a seed or of a place
use Rattle.std.specs.Prelude.{◌≡◌, ℕ, ◌+◌, List, [], take, slice_get, Some, Contains}
use Rattle.hs_scheme.specs.flow.Dependents.{IsDependent}
use Rattle.hs_scheme.specs.Problem.{ProblemData}
use Rattle.hs_table.specs.Entries.{EntryData}
use Rattle.hs_table.specs.Follows.{Support, FollowsBy, Follows, premises}
use Rattle.hs_history.specs.declared.step.Work.{Work}
use Rattle.hs_history.specs.declared.step.Work.TheVariants.{Seed, Place}

abbrev pub HasSeed : ProblemData → ℕ → (EntryData → Type 0) → Type 0
HasSeed p point Is = (e : EntryData) → e.point ≡ point → Follows p [] e → Is e

abbrev pub HasAt : ProblemData → List EntryData → ℕ → ℕ → (EntryData → Type 0) → Type 0
HasAt p log place point Is = (s : Support) (e : EntryData) → e.point ≡ point → FollowsBy p (take (place + 1) log) s e → Contains (premises s) place → Is e

abbrev pub HasPlace : ProblemData → List EntryData → ℕ → (EntryData → Type 0) → Type 0
HasPlace p log place Is =
    (at e : EntryData) (s : Support) → slice_get log place ≡ Some at → IsDependent p.points p.flow.pairs at.point e.point
    → FollowsBy p (take (place + 1) log) s e → Contains (premises s) place → Is e

abbrev pub HasWork : ProblemData → List EntryData → Work → (EntryData → Type 0) → Type 0
HasWork p log (Seed point) Is = HasSeed p point Is
HasWork p log (Place place) Is = HasPlace p log place Is
