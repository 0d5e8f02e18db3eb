-- When a table of entries, a list of void environments and a list of read pairs prove, over a closed flow, that the automaton accepts.
--     Matters                    the pairs have the entry's point with its last state
--     IsVoidEntry                the entry's environment is void for the nonterminal of its point's rule
--     IsAcceptanceCertificate    the pairs are closed, the void list is one, the start entry is lacking, and whatever weakly follows and matters
--                                is covered by an entry of the table or is void
use Rattle.std.specs.Prelude.{◌≡◌, ℕ, List, slice_get, Some, Contains, ◌⊎◌}
use Rattle.hs_scheme.specs.flow.Points.{PointData}
use Rattle.hs_scheme.specs.Problem.{ProblemData}
use Rattle.hs_table.specs.Entries.{EntryData}
use Rattle.hs_table.specs.Tables.{HasStart}
use Rattle.hs_weak.specs.Strength.{AsStrongAs}
use Rattle.hs_weak.specs.Weak.{WeaklyFollows, IsCoveredIn}
use Rattle.hs_weak.specs.Reads.{IsClosedReads, last_state}
use Rattle.hs_weak.specs.Void.{VoidData, IsVoid, IsVoidList}

abbrev pub Matters : List (ℕ × ℕ) → EntryData → Type 0
Matters R e = Contains R (e.point, last_state e.ty)

abbrev pub IsVoidEntry : ProblemData → List EntryData → List VoidData → EntryData → Type 0
IsVoidEntry p C V e = (of : PointData) × ((slice_get p.points.points e.point ≡ Some of) × IsVoid p C V of.rule e.env)

pub record IsAcceptanceCertificate (p : ProblemData) (C : List EntryData) (V : List VoidData) (R : List (ℕ × ℕ)) : Type 0 where
  pub reads : IsClosedReads p R
  pub void : IsVoidList p C V
  pub no_start : HasStart p C → ⊥
  pub covered : (e : EntryData) → WeaklyFollows AsStrongAs p C e → Matters R e → IsCoveredIn AsStrongAs p C e ⊎ IsVoidEntry p C V e
