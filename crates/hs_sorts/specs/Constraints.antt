-- The nodes of a scheme's parts, and what terms and rules ask of the sorts of nodes.
--     node_of          the node of a head in the body of a rule
--     AddsNode         a store gains a node whose sort is as is asked, and no valuation is lost
--     IsRuled          what a rule asks of its nonterminal's sort
use Rattle.std.specs.Prelude.{◌≡◌, ℕ, ◌+◌, ◌^◌, ◌<◌, ◌≤◌, List, length, slice_get, Option, Some, None, Bool, true, false}
use Rattle.hs_scheme.specs.declared.term.Head.{Head}
use Rattle.hs_scheme.specs.declared.term.Head.TheVariants.{Var, Nt, Tm}
use Rattle.hs_scheme.specs.Tree.{Tree, Trees, node, none, more}
use Rattle.hs_scheme.specs.declared.term.Rule.{Rule}
use Rattle.hs_scheme.specs.Scheme.{TermInRange}
use Rattle.hs_scheme.specs.sorting.Sorting.{SortTree, o, arrow, arrows, ranked, HasSort}
use Rattle.hs_sorts.specs.declared.store.Node.{Node}
use Rattle.hs_sorts.specs.Nodes.{Valuation, IsValuationOf}

-- the nonterminals' nodes come first, by rule, then the terminals'; those of a rule's parameters are in a row
abbrev pub node_of : ℕ → ℕ → Head → ℕ
node_of rules first (Var j) = first + j
node_of rules first (Nt g) = g
node_of rules first (Tm a) = rules + a

-- each head's node is one of the first `count`
abbrev mutual
  pub NodesBelow : (Head → ℕ) → ℕ → Tree Head → Type 0
  NodesBelow at count (node h ts) = (at h < count) × AllNodesBelow at count ts

  pub AllNodesBelow : (Head → ℕ) → ℕ → Trees Head → Type 0
  AllNodesBelow at count none = Unit {0}
  AllNodesBelow at count (more t ts) = NodesBelow at count t × AllNodesBelow at count ts

-- two valuations that agree on the first `count` nodes
pub record Agree (count : ℕ) (v w : Valuation) : Type 0 where
  pub at : (i : ℕ) → i < count → w i ≡ v i

-- a valuation that goes on with the new nodes, and gives this sort to one of them
pub record Extension (old new : List Node) (i : ℕ) (v : Valuation) (k : SortTree) : Type 0 where
  pub valuation : Valuation
  pub agrees : Agree (length old) v valuation
  pub respects : IsValuationOf valuation new
  pub gives : valuation i ≡ k

-- The new store's valuations are those of the old one that have a sort k of which P holds, with that
-- sort for the node i.
pub record AddsNode (old new : List Node) (i : ℕ) (P : Valuation → SortTree → Type 0) : Type 0 where
  pub longer : length old ≤ length new
  pub few : length new ≤ 2 ^ 32
  pub within : i < length new
  pub sound : (v : Valuation) → IsValuationOf v new → IsValuationOf v old × P v (v i)
  pub complete : (v : Valuation) (k : SortTree) → IsValuationOf v old → P v k → Extension old new i v k

-- no valuation has a sort of which P holds
abbrev pub Refutes : List Node → (Valuation → SortTree → Type 0) → Type 0
Refutes old P = (v : Valuation) (k : SortTree) → IsValuationOf v old → P v k → ⊥

abbrev pub IsNodeFor : List Node → List Node → (Valuation → SortTree → Type 0) → Option ℕ → Type 0
IsNodeFor old new P (Some i) = AddsNode old new i P
IsNodeFor old new P None = Refutes old P

-- k is a sort that is left where the function takes the argument
abbrev pub TakesArgument : ℕ → ℕ → Valuation → SortTree → Type 0
TakesArgument function argument v k = v function ≡ arrow (v argument) k

-- k is a sort of the term
abbrev pub HasSortAt : (Head → ℕ) → Tree Head → Valuation → SortTree → Type 0
HasSortAt at t v k = HasSort (λ h. v (at h)) t k

-- a valuation that goes on with the new nodes
pub record Continuation (old new : List Node) (v : Valuation) : Type 0 where
  pub valuation : Valuation
  pub agrees : Agree (length old) v valuation
  pub respects : IsValuationOf valuation new

-- the new store's valuations are those of the old one of which P holds
pub record Claims (old new : List Node) (P : Valuation → Type 0) : Type 0 where
  pub longer : length old ≤ length new
  pub few : length new ≤ 2 ^ 32
  pub sound : (v : Valuation) → IsValuationOf v new → IsValuationOf v old × P v
  pub complete : (v : Valuation) → IsValuationOf v old → P v → Continuation old new v

abbrev pub IsClaim : List Node → List Node → (Valuation → Type 0) → Bool → Type 0
IsClaim old new P true = Claims old new P
IsClaim old new P false = (v : Valuation) → IsValuationOf v old → P v → ⊥

-- the node's sort is o
abbrev pub IsBaseSort : ℕ → Valuation → Type 0
IsBaseSort i v = v i ≡ o

-- k is what is left of the node's sort behind the sorts of `count` nodes in a row, its first arguments
abbrev pub LeavesSort : ℕ → ℕ → ℕ → Valuation → SortTree → Type 0
LeavesSort i first count v k = v i ≡ arrows count (λ j. v (first + j)) k

-- the node's sort is that of a terminal of this rank
abbrev pub IsRanked : ℕ → ℕ → Valuation → Type 0
IsRanked i n v = v i ≡ ranked n

-- where the rank is known
abbrev pub IsRankedIf : ℕ → Option ℕ → Valuation → Type 0
IsRankedIf i None v = Unit {0}
IsRankedIf i (Some n) v = IsRanked i n v

-- the sorts of the heads in a body, where p gives those of the rule's parameters
abbrev pub sorts_with : ℕ → (ℕ → SortTree) → Valuation → Head → SortTree
sorts_with rules p v (Var j) = p j
sorts_with rules p v (Nt g) = v g
sorts_with rules p v (Tm a) = v (rules + a)

-- the nonterminal's sort begins with some sorts of the rule's parameters, and the body has what is left, if the rule is one of the first k
pub record IsRuled (rules k f : ℕ) (rule : Rule) (v : Valuation) : Type 0 where
  pub parameters : ℕ → SortTree
  pub rest : SortTree
  pub begins : v f ≡ arrows rule.params parameters rest
  pub body : f < k → HasSort (sorts_with rules parameters v) rule.body rest

-- each head of the body is a parameter of the rule, or has one of the first `count` nodes
pub record BodyWithin (rules count : ℕ) (rule : Rule) : Type 0 where
  pub terminals : ℕ
  pub room : rules + terminals ≤ count
  pub body : TermInRange rule.params rules terminals rule.body

abbrev pub BodiesWithin : ℕ → List Rule → Type 0
BodiesWithin count rules = (f : ℕ) (rule : Rule) → slice_get rules f ≡ Some rule → BodyWithin (length rules) count rule
