-- The terms of nodes, and how they grow.
use Rattle.std.proofs.Common.{◌≡◌, refl, sym, ◌∙◌, ap, subst, ℕ, zero, suc, ◌+◌, ◌-◌, ◌<◌, ◌≤◌, List, [], ◌∷◌, ◌++◌, length, take, drop, slice_get, Some, inl, inr, arith, length-append, add-zero}
use Rattle.std.specs.Prelude.{All}
use Rattle.std.proofs.lemmas.List.{get_or_append_left, get_or_push, length_push, take-append-le, drop-append-le, drop_at, take_all}
use Rattle.std.proofs.lemmas.List.Elements.{All-head, All-tail}
use Rattle.std.proofs.lemmas.Grind.{common_steps}
use Rattle.std.proofs.lemmas.Option.{slice_get_within}
use Rattle.hs_scheme.specs.declared.term.Head.{Head}
use Rattle.hs_scheme.specs.declared.term.Head.TheVariants.{Nt}
use Rattle.hs_scheme.specs.Tree.{Tree, node, none, forest, children-forest}
use Rattle.hs_scheme.proofs.Lists.{push_cases}
use Rattle.hs_reduce.specs.declared.graph.Node.{Node}
use Rattle.hs_reduce.specs.Graph.{term_at, terms_at, head_of, arguments_of, places_of, tree_of, trees_of, IsGraphNode, AreGraphNodes, NamesTerms, AddsTerm}

-- the same terms at places that have them
pub terms_same : (old new : List (Tree Head)) (n : ℕ) (places : List ℕ) → ((i : ℕ) → i < n → term_at new i ≡ term_at old i) → All (λ i. i < n) places → terms_at new places ≡ terms_at old places
terms_same old new n [] same within = refl
terms_same old new n (i ∷ places) same within =
    λ k. same i (All-head (λ j. j < n) i places within) k ∷ terms_same old new n places same (All-tail (λ j. j < n) i places within) k

module _ (links : List ℕ) where
  length-trees_of : (made : List (Tree Head)) (ns : List Node) → length (trees_of links made ns) ≡ length made + length ns
  length-trees_of made [] = sym (add-zero (length made))
  length-trees_of made (n ∷ ns) = omega (arith, length-trees_of (made ++ tree_of links made n ∷ []) ns, length_push made (tree_of links made n))

  pub count : (ns : List Node) → length (trees_of links [] ns) ≡ length ns
  count ns = omega (arith, length-trees_of [] ns)

  kept : (made : List (Tree Head)) (ns : List Node) (j : ℕ) → j < length made → term_at (trees_of links made ns) j ≡ term_at made j
  kept made [] j lt = refl
  kept made (n ∷ ns) j lt =
      let t = tree_of links made n in
      let there : j < length (made ++ t ∷ []) = omega (arith, length_push made t) in
      kept (made ++ t ∷ []) ns j there ∙ get_or_append_left made (t ∷ []) (node (Nt 0) none) j lt

  at_place : (made : List (Tree Head)) (ns : List Node) (i k : ℕ) (n : Node) → slice_get ns i ≡ Some n → length made + i ≡ k → All (λ j. j < k) (places_of links n)
      → term_at (trees_of links made ns) k ≡ tree_of links (trees_of links made ns) n
  at_place made [] i k n e is before = absurd (cc)
  at_place made (m ∷ ns) zero k n e is before =
      let same : m ≡ n = (cc) in
      let t : Tree Head = tree_of links made m in
      let long : length made ≡ k = omega arith in
      let there : k < length (made ++ t ∷ []) = omega (arith, length_push made t) in
      let whole = trees_of links (made ++ t ∷ []) ns in
      let places : terms_at whole (places_of links n) ≡ terms_at made (places_of links n) =
      terms_same made whole k (places_of links n) (λ j lt. let h : j < length made = omega arith in kept made (m ∷ ns) j h) before in
      kept (made ++ t ∷ []) ns k there
      ∙ (get_or_push made t (node (Nt 0) none) k long ∙ (ap (tree_of links made) same ∙ ap (λ ts. node n.head (forest ts)) (sym places)))
  at_place made (m ∷ ns) (suc i) k n e is before =
      at_place (made ++ tree_of links made m ∷ []) ns i k n e (omega (arith, length_push made (tree_of links made m))) before

  pub at_node : (ns : List Node) (i : ℕ) (n : Node) → slice_get ns i ≡ Some n → All (λ j. j < i) (places_of links n)
      → term_at (trees_of links [] ns) i ≡ tree_of links (trees_of links [] ns) n
  at_node ns i n e before = at_place [] ns i i n e (omega arith) before

  pushed : (made : List (Tree Head)) (ns : List Node) (n : Node) → trees_of links made (ns ++ n ∷ []) ≡ trees_of links made ns ++ tree_of links (trees_of links made ns) n ∷ []
  pushed made [] n = refl
  pushed made (m ∷ ns) n = pushed (made ++ tree_of links made m ∷ []) ns n

  module _ (more : List ℕ) where
    same_places : (n : Node) → n.from ≤ n.to → n.to ≤ length links → places_of (links ++ more) n ≡ places_of links n
    same_places n ordered within =
        let from : n.from ≤ length links = omega arith in
        let fits : n.to - n.from ≤ length (drop n.from links) = grind (arith, common_steps) in
        ap (take (n.to - n.from)) (drop-append-le n.from links more from) ∙ take-append-le (n.to - n.from) (drop n.from links) more fits

    node_stays : (i : ℕ) (n : Node) → IsGraphNode links i n → IsGraphNode (links ++ more) i n
    node_stays i n is = record {
      ordered = is.ordered;
      within = omega (arith, is.within, length-append links more);
      before = subst (λ (ps : List ℕ). All (λ j. j < i) ps) (sym (same_places n is.ordered is.within)) is.before;
    }

    pub nodes_stay : (ns : List Node) → AreGraphNodes links ns → AreGraphNodes (links ++ more) ns
    nodes_stay ns are = λ i n e. node_stays i n (are i n e)

    same_trees : (made : List (Tree Head)) (ns : List Node) → ((i : ℕ) (n : Node) → slice_get ns i ≡ Some n → (n.from ≤ n.to) × (n.to ≤ length links)) → trees_of (links ++ more) made ns ≡ trees_of links made ns
    same_trees made [] are = refl
    same_trees made (n ∷ ns) are =
        let here = are 0 n refl in
        ap (λ (ps : List ℕ). trees_of (links ++ more) (made ++ node n.head (forest (terms_at made ps)) ∷ []) ns) (same_places n here.0 here.1)
        ∙ same_trees (made ++ tree_of links made n ∷ []) ns (λ i m e. are (suc i) m e)

    pub trees_stay : (ns : List Node) → AreGraphNodes links ns → trees_of (links ++ more) [] ns ≡ trees_of links [] ns
    trees_stay ns are = same_trees [] ns (λ i n e. ((are i n e).ordered, (are i n e).within))

-- a node whose arguments stand at the end of the links
module _ (links : List ℕ) (ns : List Node) (are : AreGraphNodes links ns) (head : Head) (args : List ℕ) (within : All (λ j. j < length ns) args) where
  abbrev Last : Node → Type 0
  Last n = (n.head ≡ head) × (n.from ≡ length links) × (n.to ≡ length links + length args)

  places_last : (n : Node) → Last n → places_of (links ++ args) n ≡ args
  places_last n (is, from, to) =
      let start : length links ≡ n.from = sym from in
      let few : length args ≤ n.to - n.from = omega arith in
      ap (take (n.to - n.from)) (drop_at links args n.from start) ∙ take_all (n.to - n.from) args few

  node_last : (n : Node) → Last n → IsGraphNode (links ++ args) (length ns) n
  node_last n last = record {
    ordered = omega (arith, last.1, last.2);
    within = omega (arith, length-append links args, last.2);
    before = subst (λ (ps : List ℕ). All (λ j. j < length ns) ps) (sym (places_last n last)) within;
  }

  pub nodes_more : (n : Node) → Last n → AreGraphNodes (links ++ args) (ns ++ n ∷ [])
  nodes_more n last i m e = elim (push_cases ns n m i e) [
    | inl h ↦ nodes_stay links args ns are i m h
    | inr (h, k) ↦ subst (λ j. IsGraphNode (links ++ args) j m) (sym h) (subst (λ (x : Node). IsGraphNode (links ++ args) (length ns) x) k (node_last n last))
  ]

  pub trees_more : (n : Node) → Last n → trees_of (links ++ args) [] (ns ++ n ∷ []) ≡ trees_of links [] ns ++ node head (forest (terms_at (trees_of links [] ns) args)) ∷ []
  trees_more n last =
      pushed (links ++ args) [] ns n
      ∙ (λ i. trees_stay links args ns are i ++ node (last.0 i) (forest (terms_at (trees_stay links args ns are i) (places_last n last i))) ∷ [])

-- one further term
pub AddsTerm-push : (old : List (Tree Head)) (t : Tree Head) → AddsTerm old (old ++ t ∷ []) (length old) t
AddsTerm-push old t = record {
  grows = record { longer = omega (arith, length_push old t); same = λ i lt. get_or_append_left old (t ∷ []) (node (Nt 0) none) i lt };
  within = omega (arith, length_push old t);
  term = get_or_push old t (node (Nt 0) none) (length old) refl;
}

-- a node's parts, at its place
module _ (links : List ℕ) (nodes : List Node) (trees : List (Tree Head)) (view : trees_of links [] nodes ≡ trees) (are : AreGraphNodes links nodes) (place : ℕ) where
  pub in_nodes : place < length trees → place < length nodes
  in_nodes lt = omega (arith, count links nodes, ap length view)

  module _ (n : Node) (at : slice_get nodes place ≡ Some n) where
    whole : term_at trees place ≡ node n.head (forest (terms_at trees (places_of links n)))
    whole = subst (λ (ts : List (Tree Head)). term_at ts place ≡ tree_of links ts n) view (at_node links nodes place n at (are place n at).before)

    pub head_is : n.head ≡ head_of (term_at trees place)
    head_is = ap head_of (sym whole)

    before_all : All (λ i. i < length trees) (places_of links n)
    before_all k d lt = omega (arith, (are place n at).before k d lt, slice_get_within nodes place n at, count links nodes, ap length view)

    pub arguments_are : NamesTerms trees (places_of links n) (arguments_of (term_at trees place))
    arguments_are = record {
      within = before_all;
      terms = sym (children-forest (terms_at trees (places_of links n))) ∙ ap arguments_of (sym whole);
    }
