-- The walk that measures the nodes: each node is new, on the path, or measured after its children.
--     rank        falls from a node to its children, whatever respects the nodes
--     IsSearch    what holds between steps
use Rattle.std.specs.Prelude.{◌≡◌, ◌≢◌, ℕ, ◌+◌, ◌*◌, ◌<◌, ◌≤◌, List, [], ◌∷◌, ◌++◌, length, slice_get, slice_set, sum_by, Option, Some, None, Bool, true, false}
use Rattle.hs_scheme.specs.sorting.Sorting.{size}
use Rattle.hs_sorts.specs.declared.store.Node.{Node}
use Rattle.hs_sorts.specs.declared.measures.Measure.{Measure}
use Rattle.hs_sorts.specs.declared.measures.Mark.{Mark}
use Rattle.hs_sorts.specs.declared.measures.Mark.TheVariants.{New, Entered, Measured}
use Rattle.hs_sorts.specs.Nodes.{Valuation, IsValuationOf}
use Rattle.hs_sorts.specs.Measures.{ReadsNode, IsReading, DescribeAll, MarksDescribe, IsMeasured, ChildrenMeasured}

abbrev pub rank : Valuation → ℕ → ℕ → ℕ
rank v count i = size (v i) * (count + 1) + i

-- 1 for a node that wasn't come to
abbrev pub newness : Mark → ℕ
newness New = 1
newness Entered = 0
newness (Measured first_order size arity) = 0

abbrev pub new_count : List Mark → ℕ
new_count marks = sum_by newness marks

-- sorts for the measured nodes, read from them
pub record PartReading (nodes : List Node) (marks : List Mark) : Type 0 where
  pub valuation : Valuation
  pub describes : MarksDescribe marks valuation
  pub reads : (i : ℕ) (n : Node) → IsMeasured marks i → slice_get nodes i ≡ Some n → ReadsNode valuation (valuation i) n
  pub children : (i : ℕ) (n : Node) → IsMeasured marks i → slice_get nodes i ≡ Some n → ChildrenMeasured marks n

pub record IsSearch (nodes : List Node) (marks : List Mark) (path : List ℕ) : Type 0 where
  pub as_long : length marks ≡ length nodes
  pub entered : (p i : ℕ) → slice_get path p ≡ Some i → slice_get marks i ≡ Some Entered
  pub on_path : (i : ℕ) → slice_get marks i ≡ Some Entered → (p : ℕ) × (slice_get path p ≡ Some i)
  pub distinct : (p q i : ℕ) → slice_get path p ≡ Some i → slice_get path q ≡ Some i → p ≡ q
  pub falling : (v : Valuation) → IsValuationOf v nodes → (p q i j : ℕ) → p ≤ q → slice_get path p ≡ Some i → slice_get path q ≡ Some j
      → rank v (length nodes) j ≤ rank v (length nodes) i
  pub reading : PartReading nodes marks

-- the node was come to
abbrev pub IsStarted : List Mark → ℕ → Type 0
IsStarted marks i = slice_get marks i ≢ Some New

-- the node is last on the path
abbrev pub IsLastOnPath : List ℕ → ℕ → Type 0
IsLastOnPath path at = (rest : List ℕ) × (path ≡ rest ++ at ∷ [])

-- a step of the walk
pub record AdvancesSearch (nodes : List Node) (old : List Mark) (path : List ℕ) (new : List Mark) (longer : List ℕ) : Type 0 where
  pub search : IsSearch nodes new longer
  pub smaller : 2 * new_count new + length longer < 2 * new_count old + length path
  pub kept : (i : ℕ) → IsStarted old i → IsStarted new i

abbrev pub IsAdvance : List Node → List Mark → List ℕ → List Mark → List ℕ → Bool → Type 0
IsAdvance nodes old path new longer true = AdvancesSearch nodes old path new longer
IsAdvance nodes old path new longer false = (v : Valuation) → IsValuationOf v nodes → ⊥

-- a new node is put on the path, and nothing is done at another
abbrev pub IsEntry : List Mark → List ℕ → ℕ → List Mark → List ℕ → Bool → Type 0
IsEntry old path i new longer true = (slice_get old i ≡ Some New) × (new ≡ slice_set old i Entered) × (longer ≡ path ++ i ∷ [])
IsEntry old path i new longer false = IsStarted old i × (new ≡ old) × (longer ≡ path)

-- a whole walk from a node
pub record Walks (nodes : List Node) (old new : List Mark) (path : List ℕ) (start : ℕ) : Type 0 where
  pub search : IsSearch nodes new path
  pub empty : path ≡ []
  pub started : IsStarted new start
  pub kept : (i : ℕ) → IsStarted old i → IsStarted new i

abbrev pub IsNodeWalk : List Node → List Mark → List Mark → List ℕ → ℕ → Bool → Type 0
IsNodeWalk nodes old new path start true = Walks nodes old new path start
IsNodeWalk nodes old new path start false = (v : Valuation) → IsValuationOf v nodes → ⊥

-- the sorts that are read from the nodes, with their measures
pub record Measuring (nodes : List Node) (measures : List Measure) : Type 0 where
  pub as_long : length measures ≡ length nodes
  pub valuation : Valuation
  pub reading : IsReading valuation nodes
  pub describes : DescribeAll measures valuation

abbrev pub IsMeasuring : List Node → Option (List Measure) → Type 0
IsMeasuring nodes (Some measures) = Measuring nodes measures
IsMeasuring nodes None = (v : Valuation) → IsValuationOf v nodes → ⊥
