-- What follows by a work at a point.
--     AreFollowing       just the entries at the point that follow by the work
--     IsClosedAt         the log has all of them
use Rattle.std.specs.Prelude.{◌≡◌, ℕ, ◌+◌, List, [], take, Contains}
use Rattle.hs_scheme.specs.Problem.{ProblemData}
use Rattle.hs_table.specs.Entries.{EntryData}
use Rattle.hs_table.specs.Follows.{Support, FollowsBy, premises}
use Rattle.hs_types.specs.Interned.{InternerData}
use Rattle.hs_rules.specs.Conclusions.{DeducedData, AnySupport, Uses, AreConclusions}
use Rattle.hs_history.specs.declared.step.Work.{Work}
use Rattle.hs_history.specs.declared.step.Work.TheVariants.{Seed, Place}
use Rattle.hs_history.specs.CoreStep.{IsClosedSeed}

abbrev pub AreFollowing : ProblemData → InternerData → List EntryData → Work → ℕ → List DeducedData → Type 0
AreFollowing p ids log (Seed at) point found = AreConclusions p ids [] point AnySupport found
AreFollowing p ids log (Place i) point found = AreConclusions p ids (take (i + 1) log) point (Uses i) found

abbrev pub IsClosedAt : ProblemData → List EntryData → Work → ℕ → Type 0
IsClosedAt p log (Seed at) point = IsClosedSeed p log point
IsClosedAt p log (Place i) point = (s : Support) (e : EntryData) → e.point ≡ point → FollowsBy p (take (i + 1) log) s e → Contains (premises s) i → Contains log e
