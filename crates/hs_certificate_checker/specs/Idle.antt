-- Points of which nothing comes; only private contracts cite it.
--     HaveNoRows table us       none of the rows is at one of the points
--     IsIdle p R table point    the head of the point is a terminal that has a transition in each state in which the point is read, with no more
--                               children than the point has arguments, and none of these has a row
use Rattle.std.specs.Prelude.{◌≡◌, ℕ, List, length, Contains}
use Rattle.hs_scheme.specs.declared.term.Head.TheVariants.{Tm}
use Rattle.hs_scheme.specs.flow.Points.{point_at}
use Rattle.hs_scheme.specs.Problem.{ProblemData}
use Rattle.hs_table.specs.Follows.{HasMove}
use Rattle.hs_types.specs.Interned.{RowData}

abbrev pub HaveNoRows : List RowData → List ℕ → Type 0
HaveNoRows table us = (u : ℕ) → Contains us u → (row : RowData) → Contains table row → row.point ≡ u → ⊥

pub record IsIdle (p : ProblemData) (R : List (ℕ × ℕ)) (table : List RowData) (point : ℕ) : Type 0 where
  pub terminal : ℕ
  pub head : (point_at p.points point).head ≡ Tm terminal
  pub bare : HaveNoRows table (point_at p.points point).args
  pub moves : (q : ℕ) → Contains R (point, q) → HasMove p.sorted.automaton.transitions terminal (length (point_at p.points point).args) q
