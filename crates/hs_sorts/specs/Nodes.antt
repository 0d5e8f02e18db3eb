-- Nodes that stand for sorts, and what unification does to them.
--     FitsShape, FitsNode  a sort is as a node says, where v gives the sorts of the nodes
--     IsValuationOf        so is the sort that v gives to each node
--     IsStore              links and arrows lead to nodes, links to smaller numbers
--     IsFlat               no link leads to a link
use Rattle.std.specs.Prelude.{◌≡◌, ◌≢◌, ℕ, ◌+◌, ◌*◌, ◌^◌, ◌<◌, ◌≤◌, List, [], ◌∷◌, ◌++◌, All, length, slice_get, slice_set, sum_by, Option, Some, None, Bool, true, false}
use Rattle.hs_scheme.specs.sorting.Sorting.{SortTree, o, arrow}
use Rattle.hs_sorts.specs.declared.store.Shape.{Shape}
use Rattle.hs_sorts.specs.declared.store.Shape.TheVariants.{Open, Base, Arrow}
use Rattle.hs_sorts.specs.declared.store.Node.{Node}
use Rattle.hs_sorts.specs.declared.store.Node.TheVariants.{Root, Link}

-- a sort for each node
abbrev pub Valuation : Type 0
Valuation = ℕ → SortTree

abbrev pub FitsShape : Valuation → SortTree → Shape → Type 0
FitsShape v s Open = Unit {0}
FitsShape v s Base = s ≡ o
FitsShape v s (Arrow a b) = s ≡ arrow (v a) (v b)

abbrev pub FitsNode : Valuation → SortTree → Node → Type 0
FitsNode v s (Root shape) = FitsShape v s shape
FitsNode v s (Link up) = s ≡ v up

-- the sort of each node is as the node says
pub record IsValuationOf (v : Valuation) (nodes : List Node) : Type 0 where
  pub fits : (i : ℕ) (n : Node) → slice_get nodes i ≡ Some n → FitsNode v (v i) n

abbrev pub ShapeInRange : ℕ → Shape → Type 0
ShapeInRange count Open = Unit {0}
ShapeInRange count Base = Unit {0}
ShapeInRange count (Arrow a b) = (a < count) × (b < count)

abbrev pub NodeInRange : ℕ → ℕ → Node → Type 0
NodeInRange count i (Root shape) = ShapeInRange count shape
NodeInRange count i (Link up) = up < i

-- arrows lead to nodes, and links to smaller numbers
pub record IsStore (nodes : List Node) : Type 0 where
  pub few : length nodes ≤ 2 ^ 32
  pub in_range : (i : ℕ) (n : Node) → slice_get nodes i ≡ Some n → NodeInRange (length nodes) i n

-- 1 for a node without a link
abbrev pub unlinked : Node → ℕ
unlinked (Root shape) = 1
unlinked (Link up) = 0

-- the number of nodes without a link
abbrev pub root_count : List Node → ℕ
root_count nodes = sum_by unlinked nodes

-- the same valuations respect both, and what has no link is as it was
pub record IsSameStore (old new : List Node) : Type 0 where
  pub as_long : length new ≡ length old
  pub roots : root_count new ≡ root_count old
  pub kept : (i : ℕ) (s : Shape) → slice_get old i ≡ Some (Root s) → slice_get new i ≡ Some (Root s)
  pub onward : (v : Valuation) → IsValuationOf v old → IsValuationOf v new
  pub back : (v : Valuation) → IsValuationOf v new → IsValuationOf v old

-- the links of the first `count` nodes lead to nodes without one
abbrev pub FlatBelow : ℕ → List Node → Type 0
FlatBelow count nodes = (i up : ℕ) → i < count → slice_get nodes i ≡ Some (Link up) → (s : Shape) × (slice_get nodes up ≡ Some (Root s))

-- so do all
pub record IsFlat (nodes : List Node) : Type 0 where
  pub all : FlatBelow (length nodes) nodes

-- the links from the node lead to this root
pub record IsRootOf (old new : List Node) (node root : ℕ) (shape : Shape) : Type 0 where
  pub same : IsSameStore old new
  pub at : slice_get new root ≡ Some (Root shape)
  pub in_range : ShapeInRange (length old) shape
  pub equal : (v : Valuation) → IsValuationOf v old → v node ≡ v root

-- two nodes without links, apart from each other
pub record AreRoots (nodes : List Node) (a b : ℕ) : Type 0 where
  pub apart : a ≢ b
  pub left : (s : Shape) × (slice_get nodes a ≡ Some (Root s))
  pub right : (s : Shape) × (slice_get nodes b ≡ Some (Root s))

-- the first node gets this shape, and the second a link to it
abbrev pub linked : List Node → ℕ → ℕ → Shape → List Node
linked nodes a b shape = slice_set (slice_set nodes a (Root shape)) b (Link a)

-- the open root becomes the arrow from this argument to a new open node
abbrev pub with_arrow : List Node → ℕ → ℕ → List Node
with_arrow nodes root argument = slice_set (nodes ++ Root Open ∷ []) root (Root (Arrow argument (length nodes)))

-- two nodes have one sort
abbrev pub AreOne : Valuation → List (ℕ × ℕ) → Type 0
AreOne v pairs = All (λ p. v p.0 ≡ v p.1) pairs

abbrev pub PairsInRange : ℕ → List (ℕ × ℕ) → Type 0
PairsInRange count pairs = All (λ p. (p.0 < count) × (p.1 < count)) pairs

-- a sort has both shapes exactly where it has the merged one, and the added pairs are one
pub record Merges (left right shape : Shape) (old new : List (ℕ × ℕ)) : Type 0 where
  pub few : length new ≤ length old + 2
  pub in_range : (count : ℕ) → ShapeInRange count left → ShapeInRange count right → ShapeInRange count shape
  pub pairs_in_range : (count : ℕ) → ShapeInRange count left → ShapeInRange count right → PairsInRange count old → PairsInRange count new
  pub onward : (v : Valuation) (s : SortTree) → FitsShape v s left → FitsShape v s right → AreOne v old → FitsShape v s shape × AreOne v new
  pub back : (v : Valuation) (s : SortTree) → FitsShape v s shape → AreOne v new → FitsShape v s left × FitsShape v s right × AreOne v old

abbrev pub IsMerge : Shape → Shape → List (ℕ × ℕ) → List (ℕ × ℕ) → Option Shape → Type 0
IsMerge left right old new (Some shape) = Merges left right shape old new
IsMerge left right old new None = (v : Valuation) (s : SortTree) → FitsShape v s left → FitsShape v s right → ⊥

-- the two nodes are one, and so are the pairs, exactly where the new store is respected and the new pairs are one
pub record Joins (a b : ℕ) (old new : List Node) (before after : List (ℕ × ℕ)) : Type 0 where
  pub as_long : length new ≡ length old
  pub smaller : 2 * root_count new + length after ≤ 2 * root_count old + length before
  pub in_range : PairsInRange (length old) before → PairsInRange (length new) after
  pub onward : (v : Valuation) → IsValuationOf v old → v a ≡ v b → AreOne v before → IsValuationOf v new × AreOne v after
  pub back : (v : Valuation) → IsValuationOf v new → AreOne v after → IsValuationOf v old × (v a ≡ v b) × AreOne v before

abbrev pub JoinsOrRefuses : ℕ → ℕ → List Node → List Node → List (ℕ × ℕ) → List (ℕ × ℕ) → Bool → Type 0
JoinsOrRefuses a b old new before after true = Joins a b old new before after
JoinsOrRefuses a b old new before after false = (v : Valuation) → IsValuationOf v old → v a ≡ v b → ⊥

-- the two nodes are made one
pub record Equates (a b : ℕ) (old new : List Node) : Type 0 where
  pub as_long : length new ≡ length old
  pub onward : (v : Valuation) → IsValuationOf v old → v a ≡ v b → IsValuationOf v new
  pub back : (v : Valuation) → IsValuationOf v new → IsValuationOf v old × (v a ≡ v b)

abbrev pub IsEquation : ℕ → ℕ → List Node → List Node → Bool → Type 0
IsEquation a b old new true = Equates a b old new
IsEquation a b old new false = (v : Valuation) → IsValuationOf v old → v a ≡ v b → ⊥
