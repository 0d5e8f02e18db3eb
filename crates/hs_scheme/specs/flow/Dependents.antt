-- The dependents of a point p: the points that must look again when an entry is added there.
--     IsDependent points flows p d     d reads the entries at p: p is an argument of d; or p is the body of the nonterminal at d's head;
--                                      or p may stand for the parameter at d's head
use Rattle.std.specs.Prelude.{◌≡◌, ℕ, List, ◌⊎◌, slice_get, Some, Contains}
use Rattle.hs_scheme.specs.declared.term.Head.{Head}
use Rattle.hs_scheme.specs.declared.term.Head.TheVariants.{Var, Nt, Tm}
use Rattle.hs_scheme.specs.declared.flow.FlowPair.{FlowPair}
use Rattle.hs_scheme.specs.flow.Points.{PointData, PointsData}

-- the types of this head, in this rule, come from the entries at p
abbrev pub HeadReads : List ℕ → List FlowPair → ℕ → Head → ℕ → Type 0
HeadReads bodies flows rule (Nt f) p = slice_get bodies f ≡ Some p
HeadReads bodies flows rule (Var x) p = Contains flows (record { rule = rule; param = x; point = p })
HeadReads bodies flows rule (Tm a) p = ⊥

pub record IsDependent (points : PointsData) (flows : List FlowPair) (p d : ℕ) : Type 0 where
  pub of : PointData
  pub at : slice_get points.points d ≡ Some of
  pub reads : Contains of.args p ⊎ HeadReads points.bodies flows of.rule of.head p
