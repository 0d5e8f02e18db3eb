-- What the solver gives: nodes whose sorts are the sortings of the first k rules, or none where there is no sorting.
use Rattle.std.specs.Prelude.{ℕ, List, Option, Some, None}
use Rattle.hs_scheme.specs.declared.term.Rule.{Rule}
use Rattle.hs_scheme.specs.sorting.Sorting.{HasSorting}
use Rattle.hs_sorts.specs.declared.store.Node.{Node}
use Rattle.hs_sorts.specs.Nodes.{IsFlat}
use Rattle.hs_sorts.specs.Solving.{Solves}

pub record IsSolved (rules : List Rule) (ranks : List (Option ℕ)) (k : ℕ) (nodes : List Node) : Type 0 where
  pub solves : Solves rules ranks k nodes
  pub flat : IsFlat nodes

abbrev pub IsSolution : List Rule → List (Option ℕ) → ℕ → Option (List Node) → Type 0
IsSolution rules ranks k (Some nodes) = IsSolved rules ranks k nodes
IsSolution rules ranks k None = HasSorting rules ranks k → ⊥
