-- What follows at a point by a work, and when the log has all of it.
use Rattle.std.proofs.Common.{refl, subst, ℕ, ◌+◌, ◌<◌, List, [], map, length, All, Contains, arith}
use Rattle.std.proofs.lemmas.List.{take_all}
use Rattle.std.proofs.lemmas.List.Elements.{All-contains, All-map}
use Rattle.hs_scheme.specs.Problem.{ProblemData}
use Rattle.hs_table.specs.Entries.{EntryData}
use Rattle.hs_table.specs.Follows.{Support, FollowsBy}
use Rattle.hs_table_laws.proofs.Growing.{by_append, by_take}
use Rattle.hs_table_laws.proofs.Places.{within_from}
use Rattle.hs_types.specs.Interned.{InternerData, entry_of}
use Rattle.hs_rules.specs.Conclusions.{DeducedData, IsDeduced}
use Rattle.hs_history.specs.declared.step.Work.{Work}
use Rattle.hs_history.specs.declared.step.Work.TheVariants.{Seed, Place}
use Rattle.hs_history.specs.CoreStep.{IsClosedWork}
use Rattle.hs_workers_examples.specs.Working.{up_to, AreFollowing, IsClosedAt}

module _ (p : ProblemData) (log : List EntryData) where
  -- what follows by a work follows from the log
  in_whole : (work : Work) (s : Support) (e : EntryData) → FollowsBy p (up_to work log) s e → FollowsBy p log s e
  in_whole (Seed at) s e f = by_append p [] log s e f
  in_whole (Place i) s e f = let n = i + 1 in subst (λ xs. FollowsBy p xs s e) (take_all (n + length log) log (omega arith)) (by_take p log n (n + length log) s e (omega arith) f)

  pub following_deduced : (ids : InternerData) (work : Work) (d : DeducedData) → IsDeduced p ids (up_to work log) d → IsDeduced p ids log d
  following_deduced ids work d is = record { row = is.row; follows = in_whole work d.support (entry_of ids d.row) is.follows }

  -- the log has what was found: nothing is left out at the point
  pub closed_at : (ids : InternerData) (work : Work) (point : ℕ) (found : List DeducedData) → AreFollowing p ids log work point found
      → All (λ (d : DeducedData). Contains log (entry_of ids d.row)) found → IsClosedAt p log work point
  closed_at ids work point found are there = λ s e at follows counts.
      All-contains (λ x. Contains log x) (map (λ (d : DeducedData). entry_of ids d.row) found) e (All-map (λ x. Contains log x) (λ (d : DeducedData). entry_of ids d.row) found there) (are.each s e at follows counts)

  -- at no point
  pub closed_work : (work : Work) → ((point : ℕ) → point < length p.points.points → IsClosedAt p log work point) → IsClosedWork p log work
  closed_work (Seed at) each = λ e here follows. each e.point (within_from p.points.points e.point follows.1.of follows.1.at) follows.0 e refl follows.1 tt
  closed_work (Place i) each = λ at e s here dependent follows uses. each e.point (within_from p.points.points e.point follows.of follows.at) s e refl follows uses
