-- Points of which nothing comes; only private contracts cite it.
--     IsSilent heads E u     no head pair and no entry is of the point
--     IsInert p E point      the point's head is a parameter for which only silent points may stand
use Rattle.std.specs.Prelude.{◌≡◌, ℕ, Bool, true, List, slice_get, Some, Contains}
use Rattle.hs_scheme.specs.declared.flow.HeadPair.{HeadPair}
use Rattle.hs_scheme.specs.declared.term.Head.TheVariants.{Var}
use Rattle.hs_scheme.specs.flow.Points.{point_at}
use Rattle.hs_scheme.specs.Problem.{ProblemData}
use Rattle.hs_table.specs.Entries.{EntryData}

pub record IsSilent (heads : List HeadPair) (E : List EntryData) (u : ℕ) : Type 0 where
  pub becomes : (h : HeadPair) → Contains heads h → h.point ≡ u → ⊥
  pub has : (e : EntryData) → Contains E e → e.point ≡ u → ⊥

abbrev pub AreSilent : List HeadPair → List EntryData → List Bool → Type 0
AreSilent heads E marks = (u : ℕ) → slice_get marks u ≡ Some true → IsSilent heads E u

pub record IsInert (p : ProblemData) (E : List EntryData) (point : ℕ) : Type 0 where
  pub parameter : ℕ
  pub head : (point_at p.points point).head ≡ Var parameter
  pub silent : (u : ℕ) → Contains p.flow.pairs (record { rule = (point_at p.points point).rule; param = parameter; point = u }) → IsSilent p.flow.heads E u

abbrev pub AreInert : ProblemData → List EntryData → List Bool → Type 0
AreInert p E marks = (point : ℕ) → slice_get marks point ≡ Some true → IsInert p E point
