-- What follows at a point by a work, and when the log has all of it.
use Rattle.std.proofs.Common.{◌≡◌, sym, ap, subst, ℕ, ◌+◌, ◌<◌, List, [], take, length, slice_get, unwrap_or, Some, All, Contains, arith}
use Rattle.std.proofs.lemmas.List.{take_all, append-nil}
use Rattle.std.proofs.lemmas.List.Elements.{All-weaker}
use Rattle.hs_scheme.specs.Problem.{ProblemData}
use Rattle.hs_flow.specs.Dependents.{HasDependents}
use Rattle.hs_table.specs.Entries.{EntryData}
use Rattle.hs_table.specs.Follows.{Support, FollowsBy}
use Rattle.hs_table_laws.proofs.Growing.{by_append, by_take}
use Rattle.hs_types.specs.Interned.{InternerData, IsRow, entry_of}
use Rattle.hs_rules.specs.Conclusions.{DeducedData, IsDeduced}
use Rattle.hs_history.specs.declared.step.Work.{Work}
use Rattle.hs_history.specs.declared.step.Work.TheVariants.{Seed, Place}
use Rattle.hs_history.specs.CoreStep.{IsClosedPlace}
use Rattle.hs_core.proofs.Moving.{seed_closed, has_all, place_closed}
use Rattle.hs_table_examples.specs.Following.{AreFollowing, IsClosedAt}

module _ (p : ProblemData) (ids : InternerData) (log : List EntryData) where
  in_whole : (n : ℕ) (s : Support) (e : EntryData) → FollowsBy p (take n log) s e → FollowsBy p log s e
  in_whole n s e f = subst (λ xs. FollowsBy p xs s e) (take_all (n + length log) log (omega arith)) (by_take p log n (n + length log) s e (omega arith) f)

  -- what follows by a work follows from the log
  pub following_deduced : (work : Work) (point : ℕ) (found : List DeducedData) → AreFollowing p ids log work point found → All (IsDeduced p ids log) found
  following_deduced (Seed at) point found are =
      All-weaker (IsDeduced p ids []) (IsDeduced p ids log) (λ d is. record { row = is.row; follows = by_append p [] log d.support (entry_of ids d.row) is.follows }) found are.deduced
  following_deduced (Place i) point found are =
      All-weaker (IsDeduced p ids (take (i + 1) log)) (IsDeduced p ids log) (λ d is. record { row = is.row; follows = in_whole (i + 1) d.support (entry_of ids d.row) is.follows }) found are.deduced

  pub following_rows : (work : Work) (point : ℕ) (found : List DeducedData) → AreFollowing p ids log work point found → All (λ (d : DeducedData). IsRow ids d.row) found
  following_rows work point found are = All-weaker (IsDeduced p ids log) (λ (d : DeducedData). IsRow ids d.row) (λ d is. is.row) found (following_deduced work point found are)

  -- the log has it: nothing is left out
  pub closed_at : (work : Work) (point : ℕ) (found : List DeducedData) → AreFollowing p ids log work point found → All (λ (d : DeducedData). Contains log (entry_of ids d.row)) found → IsClosedAt p log work point
  closed_at (Seed at) point found are there = seed_closed p ids log found there point are
  closed_at (Place i) point found are there = has_all p ids log log i point found there are

-- at the dependents of its point
pub closed_place : (p : ProblemData) (log : List EntryData) (place : ℕ) (at : EntryData) (lists : List (List ℕ)) (items : List ℕ) → place < length log → slice_get log place ≡ Some at
    → HasDependents p.points p.flow.pairs lists → slice_get lists at.point ≡ Some items → All (IsClosedAt p log (Place place)) items → IsClosedPlace p log place
closed_place p log place at lists items within here dependents listed all =
    place_closed p log [] log place within (sym (append-nil log)) at lists items here dependents (sym (ap (λ o. unwrap_or o []) listed)) (λ k lt. all k 0 lt)
