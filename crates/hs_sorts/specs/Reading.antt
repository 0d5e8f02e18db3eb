-- What is read from measured nodes.
use Rattle.std.specs.Prelude.{◌≡◌, ℕ, ◌<◌, List, length, Option, Some, None, slice_get, unwrap_or}
use Rattle.std.specs.Option.{option_map}
use Rattle.hs_scheme.specs.sorting.Sorting.{o, arrow}
use Rattle.hs_sorts.specs.declared.store.Shape.{Shape}
use Rattle.hs_sorts.specs.declared.store.Shape.TheVariants.{Open, Base, Arrow}
use Rattle.hs_sorts.specs.declared.store.Node.{Node}
use Rattle.hs_sorts.specs.declared.measures.Measure.{Measure}
use Rattle.hs_sorts.specs.Nodes.{Valuation}
use Rattle.hs_sorts.specs.Measures.{IsReading}

-- the counted size at a node
abbrev pub size_at : List Measure → ℕ → ℕ
size_at measures i = unwrap_or (option_map (λ w. w.size) (slice_get measures i)) 0

-- the nodes of an arrow's argument and of the rest
abbrev pub parts : Shape → Option (ℕ × ℕ)
parts Open = None
parts Base = None
parts (Arrow a b) = Some (a, b)

-- the sort that is read from a node takes an argument, or is o
pub record IsArrowAt (nodes : List Node) (i a b : ℕ) : Type 0 where
  pub argument : a < length nodes
  pub rest : b < length nodes
  pub reads : (v : Valuation) → IsReading v nodes → v i ≡ arrow (v a) (v b)

abbrev pub IsSplitAt : List Node → ℕ → Option (ℕ × ℕ) → Type 0
IsSplitAt nodes i (Some p) = IsArrowAt nodes i p.0 p.1
IsSplitAt nodes i None = (v : Valuation) → IsReading v nodes → v i ≡ o
