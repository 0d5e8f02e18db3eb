-- Sorts read from nodes, and what is counted of them.
--     ReadsNode      a sort is read from a node, an open one as o
--     IsReading      so is each node's sort
--     Describes      a measure has the size of a sort, counted to 1,001, and its number of arguments
use Rattle.std.specs.Prelude.{◌≡◌, ℕ, ◌<◌, List, length, map, slice_get, min, Option, Some, None, true, false, ◌⊎◌}
use Rattle.hs_scheme.specs.sorting.Sorting.{SortTree, o, arrow, size, arguments, IsFirstOrder}
use Rattle.hs_sorts.specs.declared.store.Shape.TheVariants.{Open, Base, Arrow}
use Rattle.hs_sorts.specs.declared.store.Node.{Node}
use Rattle.hs_sorts.specs.declared.store.Node.TheVariants.{Root, Link}
use Rattle.hs_sorts.specs.declared.measures.Measure.{Measure}
use Rattle.hs_sorts.specs.declared.measures.Mark.{Mark}
use Rattle.hs_sorts.specs.declared.measures.Mark.TheVariants.{New, Entered, Measured}
use Rattle.hs_sorts.specs.declared.measures.Step.{Step}
use Rattle.hs_sorts.specs.declared.measures.Step.TheVariants.{Done, Child}
use Rattle.hs_sorts.specs.Nodes.{Valuation}

abbrev pub ReadsNode : Valuation → SortTree → Node → Type 0
ReadsNode v s (Root Open) = s ≡ o
ReadsNode v s (Root Base) = s ≡ o
ReadsNode v s (Root (Arrow a b)) = s ≡ arrow (v a) (v b)
ReadsNode v s (Link up) = s ≡ v up

pub record IsReading (v : Valuation) (nodes : List Node) : Type 0 where
  pub reads : (i : ℕ) (n : Node) → slice_get nodes i ≡ Some n → ReadsNode v (v i) n

-- size, number of arguments, and whether these are all o
pub record Describes (w : Measure) (s : SortTree) : Type 0 where
  pub sized : w.size ≡ min 1001 (size s)
  pub arity : w.arity ≡ length (arguments s)
  pub first_order : w.first_order ≡ true → IsFirstOrder s
  pub higher_order : w.first_order ≡ false → IsFirstOrder s → ⊥

-- the mark of a node of this measure
abbrev pub measured : Measure → Mark
measured w = Measured w.first_order w.size w.arity

-- what stands for the measure of a node that isn't measured
abbrev pub unmeasured : Measure
unmeasured = record { size = 0; arity = 0; first_order = false }

-- the measure in a mark
abbrev pub measure_in : Mark → Measure
measure_in New = unmeasured
measure_in Entered = unmeasured
measure_in (Measured first_order size arity) = record { size = size; arity = arity; first_order = first_order }

abbrev pub measures_in : List Mark → List Measure
measures_in marks = map measure_in marks

-- whether a mark has a measure, and which
abbrev pub IsMeasureIn : Mark → Option Measure → Type 0
IsMeasureIn m (Some w) = m ≡ measured w
IsMeasureIn m None = (w : Measure) → m ≡ measured w → ⊥

-- the measures are those of the sorts that v gives
abbrev pub DescribeAll : List Measure → Valuation → Type 0
DescribeAll measures v = (i : ℕ) (w : Measure) → slice_get measures i ≡ Some w → Describes w (v i)

abbrev pub MarksDescribe : List Mark → Valuation → Type 0
MarksDescribe marks v = (i : ℕ) (w : Measure) → slice_get marks i ≡ Some (measured w) → Describes w (v i)

abbrev pub IsMeasured : List Mark → ℕ → Type 0
IsMeasured marks i = (w : Measure) × (slice_get marks i ≡ Some (measured w))

-- a sort is read from this node by way of the other
abbrev pub IsChildOf : Node → ℕ → Type 0
IsChildOf (Root Open) c = ⊥
IsChildOf (Root Base) c = ⊥
IsChildOf (Root (Arrow a b)) c = (c ≡ a) ⊎ (c ≡ b)
IsChildOf (Link up) c = c ≡ up

abbrev pub ChildrenBelow : ℕ → Node → Type 0
ChildrenBelow count n = (c : ℕ) → IsChildOf n c → c < count

abbrev pub ChildrenMeasured : List Mark → Node → Type 0
ChildrenMeasured marks n = (c : ℕ) → IsChildOf n c → IsMeasured marks c

-- either the node can be measured, or a child has to be measured first
abbrev pub IsMeasuringStep : List Mark → Node → Step → Type 0
IsMeasuringStep marks n (Done w) = ChildrenMeasured marks n × ((v : Valuation) (s : SortTree) → MarksDescribe marks v → ReadsNode v s n → Describes w s)
IsMeasuringStep marks n (Child c) = IsChildOf n c × ((w : Measure) → slice_get marks c ≡ Some (measured w) → ⊥)
