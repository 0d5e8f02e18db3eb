-- What weakly follows at a point, by rows; only private contracts cite it.
--     IsHeadSource        the types of a head come from the entries at this point
--     IsSource            so, or it is an argument: what follows at a point comes from entries at such points alone
--     AddsRowsOf          the entries that are kept at points of a kind were added
--     IsGathered          just the entries at the sources of a point
--     row_with            the row with a point, a type and an environment
--     IsSplitAtArgs       a type of the point's head, split at its arguments
--     IsCoveredAmong      one of the rows covers the entry
--     HasStrong           one of the rows has a type that is as strong; HasStrongAt: one at this point
--     AreCoveredByType    whatever follows by a type of the head is covered by one of the rows
--     HasEntry            one of the rows, which are in use, has the entry
--     KeepsEntries        the rows have all entries that others had
--     rejected_in         the entry at a point with an environment and a state
--     HasByRow            the rows have the entries at a terminal, for the states whose transition reads a child in the row's state
--     HasLacking          and those for the states without a transition
--     IsFollowing         the row's entry weakly follows at the point
--     AreFollowingAt      so the entries of rows, from those that were added
--     AddsFollowing       what follows by a type of the head was added, as much as it takes
--     AddsFollowingAll    so for each type of the head, and nothing else is there
--     AreFollowingFrom    rows that weakly follow at the point, one of which covers each entry that does so from some of the entries
--     AreLeastFollowing   rows that weakly follow at the point, one of which covers each entry that does
use Rattle.std.specs.Prelude.{◌≡◌, ℕ, ◌<◌, List, [], length, replicate, None, Contains, ◌⊎◌, ◌↔◌}
use Rattle.hs_scheme.specs.acceptance.Automaton.{next}
use Rattle.hs_scheme.specs.acceptance.Transitions.{Reads}
use Rattle.hs_scheme.specs.declared.term.Head.{Head}
use Rattle.hs_scheme.specs.flow.Dependents.{HeadReads}
use Rattle.hs_scheme.specs.flow.Points.{PointData, point_at}
use Rattle.hs_scheme.specs.Problem.{ProblemData}
use Rattle.hs_table.specs.Types.{TypeTree, state, arrows}
use Rattle.hs_table.specs.Entries.{Env, EntryData, Has, IsEnv, params_of}
use Rattle.hs_table.specs.Follows.{HeadHas, AnyHas}
use Rattle.hs_weak.specs.Strength.{AsStrongAs, Covers}
use Rattle.hs_weak.specs.Weak.{WeaklyChosen, WeaklyFollows}
use Rattle.hs_types.specs.Interned.{InternerData, type_of_id, env_of_id, RowData, IsRow, entry_of}
use Rattle.hs_heads.specs.HeadTypes.{HeadTypeData, sets_of, IsHeadRow}
use Rattle.hs_reads.specs.Lists.{list_of}
use Rattle.hs_minimal.specs.Growing.{GrowingData, entries, AreOfRows}

abbrev pub IsHeadSource : ProblemData → ℕ → Head → ℕ → Type 0
IsHeadSource p rule head u = HeadReads p.points.bodies p.flow.pairs rule head u

abbrev pub IsSource : ProblemData → PointData → ℕ → Type 0
IsSource p of u = IsHeadSource p of.rule of.head u ⊎ Contains of.args u

abbrev pub AddsRowsOf : GrowingData → (ℕ → Type 0) → List RowData → List RowData → Type 0
AddsRowsOf g Of old new = (r : RowData) → Contains new r ↔ (Contains old r ⊎ ((u : ℕ) × (Of u × Contains (list_of g.rows u) r)))

abbrev pub IsGathered : GrowingData → ℕ → List RowData → Type 0
IsGathered g point rows = (r : RowData) → Contains rows r ↔ ((u : ℕ) × (IsSource g.problem (point_at g.problem.points point) u × Contains (list_of g.rows u) r))

abbrev pub row_with : ℕ → ℕ → ℕ → RowData
row_with point ty env = record { point = point; env = env; ty = ty }

pub record IsSplitAtArgs (p : ProblemData) (point : ℕ) (I : InternerData) (h : HeadTypeData) : Type 0 where
  pub row : IsHeadRow p (point_at p.points point) I h
  pub long : length h.sets ≡ length (point_at p.points point).args

abbrev pub IsCoveredAmong : InternerData → List RowData → EntryData → Type 0
IsCoveredAmong I rows e = (by : RowData) × (Contains rows by × Covers AsStrongAs (entry_of I by) e)

abbrev pub HasStrong : InternerData → List RowData → TypeTree → Type 0
HasStrong I rows a = (r : RowData) × (Contains rows r × AsStrongAs (type_of_id I r.ty) a)

abbrev pub HasStrongAt : InternerData → List RowData → ℕ → TypeTree → Type 0
HasStrongAt I rows u a = (r : RowData) × (Contains rows r × (r.point ≡ u) × AsStrongAs (type_of_id I r.ty) a)

abbrev pub AreCoveredByType : ProblemData → List EntryData → ℕ → PointData → InternerData → Env → TypeTree → List RowData → Type 0
AreCoveredByType p C point of J sets ty rows =
    (places : List (ℕ × ℕ)) (es : List EntryData) → WeaklyChosen AsStrongAs p C 0 of.args sets places es → (E : Env) → IsEnv (params_of p of.rule) E
    → ((j : ℕ) (a : TypeTree) → j < length E → Has E j a ↔ (HeadHas of.head (arrows sets ty) j a ⊎ AnyHas es j a)) → IsCoveredAmong J rows (record { point = point; env = E; ty = ty })

abbrev pub HasEntry : InternerData → List RowData → EntryData → Type 0
HasEntry J rows e = (r : RowData) × (Contains rows r × IsRow J r × (entry_of J r ≡ e))

abbrev pub KeepsEntries : InternerData → InternerData → List RowData → List RowData → Type 0
KeepsEntries I J old new = (e : EntryData) → HasEntry I old e → HasEntry J new e

abbrev pub rejected_in : ℕ → Env → ℕ → EntryData
rejected_in point env q = record { point = point; env = env; ty = state q }

-- the row is read in I, those that are found in J
abbrev pub HasByRow : ProblemData → InternerData → InternerData → List RowData → ℕ → ℕ → ℕ → RowData → Type 0
HasByRow p I J found point a place row =
    (s q : ℕ) → type_of_id I row.ty ≡ state s → Reads p.sorted.automaton.transitions a place s q → HasEntry J found (rejected_in point (env_of_id I row.env) q)

abbrev pub HasLacking : ProblemData → InternerData → List RowData → ℕ → ℕ → ℕ → Type 0
HasLacking p J found point a q =
    next p.sorted.automaton.transitions q a ≡ None → HasEntry J found (rejected_in point (replicate (params_of p (point_at p.points point).rule) []) q)

pub record IsFollowing (p : ProblemData) (C : List EntryData) (point : ℕ) (J : InternerData) (r : RowData) : Type 0 where
  pub in_use : IsRow J r
  pub at : r.point ≡ point
  pub follows : WeaklyFollows AsStrongAs p C (entry_of J r)

abbrev pub AreFollowingAt : InternerData → GrowingData → ℕ → List RowData → Type 0
AreFollowingAt J g point found = (r : RowData) → Contains found r → IsFollowing g.problem (entries J g.history) point J r

pub record AddsFollowing (p : ProblemData) (C : List EntryData) (point : ℕ) (of : PointData) (J : InternerData) (sets : Env) (ty : TypeTree) (old new : List RowData) : Type 0 where
  pub keeps : (r : RowData) → Contains old r → Contains new r
  pub come : (r : RowData) → Contains new r → Contains old r ⊎ IsFollowing p C point J r
  pub covered : AreCoveredByType p C point of J sets ty new

-- the head types are read in I, the rows in J
pub record AddsFollowingAll (p : ProblemData) (C : List EntryData) (point : ℕ) (of : PointData) (I J : InternerData) (heads : List HeadTypeData) (found : List RowData) : Type 0 where
  pub all : (r : RowData) → Contains found r → IsFollowing p C point J r
  pub covered : (h : HeadTypeData) → Contains heads h → AreCoveredByType p C point of J (sets_of I h) (type_of_id I h.ty) found

-- the rows that it starts from are read in I, those that are found in J
pub record AreFollowingFrom (I J : InternerData) (g : GrowingData) (point : ℕ) (rows found : List RowData) : Type 0 where
  pub all : AreFollowingAt J g point found
  pub covered : (e : EntryData) → e.point ≡ point → WeaklyFollows AsStrongAs g.problem (entries I rows) e → IsCoveredAmong J found e

pub record AreLeastFollowing (I : InternerData) (g : GrowingData) (point : ℕ) (found : List RowData) : Type 0 where
  pub all : AreFollowingAt I g point found
  pub covered : (C : List EntryData) → AreOfRows I g C → (e : EntryData) → e.point ≡ point → WeaklyFollows AsStrongAs g.problem C e → IsCoveredAmong I found e
