-- The terms that nodes with shared arguments stand for.
--     trees_of               the terms of all nodes, in their order
--     term_at, terms_at      the term at a place, the terms at some places
--     head_of, arguments_of  the parts of a term
--     NamesTerms             places in range, and their terms
--     GrowsTrees, AddsTerm   further terms, one of which stands at this place
--     Unfolds                so where there is a term, and nothing where there is none
use Rattle.std.specs.Prelude.{◌≡◌, ℕ, ◌<◌, ◌≤◌, List, [], ◌∷◌, ◌++◌, All, length, map, slice_get, slice_index_or, slice_range, Option, Some, None}
use Rattle.hs_scheme.specs.declared.term.Head.{Head}
use Rattle.hs_scheme.specs.declared.term.Head.TheVariants.{Nt}
use Rattle.hs_scheme.specs.Tree.{Tree, node, none, forest, children}
use Rattle.hs_reduce.specs.declared.graph.Node.{Node}

abbrev pub term_at : List (Tree Head) → ℕ → Tree Head
term_at trees i = slice_index_or trees i (node (Nt 0) none)

abbrev pub terms_at : List (Tree Head) → List ℕ → List (Tree Head)
terms_at trees places = map (term_at trees) places

abbrev pub head_of : Tree Head → Head
head_of (node h us) = h

abbrev pub arguments_of : Tree Head → List (Tree Head)
arguments_of (node h us) = children us

-- the places of a node's arguments
abbrev pub places_of : List ℕ → Node → List ℕ
places_of links n = slice_range links n.from n.to

-- the term of a node, whose arguments are among the terms made so far
abbrev pub tree_of : List ℕ → List (Tree Head) → Node → Tree Head
tree_of links made n = node n.head (forest (terms_at made (places_of links n)))

-- the terms made so far, and those of further nodes
abbrev pub trees_of : List ℕ → List (Tree Head) → List Node → List (Tree Head)
trees_of links made [] = made
trees_of links made (n ∷ ns) = trees_of links (made ++ tree_of links made n ∷ []) ns

-- the places are in range, and before the node's own
pub record IsGraphNode (links : List ℕ) (place : ℕ) (n : Node) : Type 0 where
  pub ordered : n.from ≤ n.to
  pub within : n.to ≤ length links
  pub before : All (λ i. i < place) (places_of links n)

abbrev pub AreGraphNodes : List ℕ → List Node → Type 0
AreGraphNodes links nodes = (i : ℕ) (n : Node) → slice_get nodes i ≡ Some n → IsGraphNode links i n

pub record NamesTerms (trees : List (Tree Head)) (places : List ℕ) (ts : List (Tree Head)) : Type 0 where
  pub within : All (λ i. i < length trees) places
  pub terms : terms_at trees places ≡ ts

pub record GrowsTrees (old new : List (Tree Head)) : Type 0 where
  pub longer : length old ≤ length new
  pub same : (i : ℕ) → i < length old → term_at new i ≡ term_at old i

pub record AddsTerm (old new : List (Tree Head)) (place : ℕ) (t : Tree Head) : Type 0 where
  pub grows : GrowsTrees old new
  pub within : place < length new
  pub term : term_at new place ≡ t

-- nothing where there is no term, and otherwise the place at which it has been added, or was
abbrev pub Unfolds : List (Tree Head) → List (Tree Head) → Option ℕ → Option (Tree Head) → Type 0
Unfolds old new None t = (t ≡ None) × GrowsTrees old new
Unfolds old new (Some place) t = (u : Tree Head) × (t ≡ Some u) × AddsTerm old new place u
