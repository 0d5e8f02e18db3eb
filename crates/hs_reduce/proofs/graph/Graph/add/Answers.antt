use Rattle.std.proofs.Common.{arith, length, refl, ◌≡◌, ◌∙◌, ap, sym, subst, List, ℕ, ◌<◌, ◌+◌, ◌++◌, [], ◌∷◌, length-append}
use Rattle.std.specs.Prelude.{All}
use Rattle.hs_scheme.specs.declared.term.Head.{Head}
use Rattle.hs_scheme.specs.Tree.{Tree, node, forest}
use Rattle.hs_reduce.specs.declared.graph.Node.{Node}
use Rattle.hs_reduce.specs.Graph.{terms_at, trees_of, AreGraphNodes, AddsTerm}
use Rattle.hs_reduce.proofs.GraphLemmas.{count, nodes_stay, nodes_more, trees_more, AddsTerm-push}
use Rattle.hs_reduce.proofs.graph.Graph.add.Goals as goal

-- the links and the nodes after each of the two appends
stay : (links links' args : List ℕ) (ns ns' : List Node) → links' ≡ links ++ args → ns' ≡ ns → AreGraphNodes links ns → AreGraphNodes links' ns'
stay links links' args ns ns' e f are = subst (λ (x : List Node). AreGraphNodes links' x) (sym f) (subst (λ (x : List ℕ). AreGraphNodes x ns) (sym e) (nodes_stay links args ns are))

pub invariant_of-self-in_err-push : goal.invariant_of-self-in_err-push
invariant_of-self-in_err-push c =
    let i = c.self.inside in
    stay i.links.items c.extend_from_slice.new.self.items c.args.args.now i.nodes.items c.push.new.self.items c.in_ok-extend_from_slice.ensures.items c.in_err-push.ensures.items c.self.invariant

-- both appends, for the node that was pushed
module _ (links links' args : List ℕ) (ns ns' : List Node) (n : Node) (e : links' ≡ links ++ args) (f : ns' ≡ ns ++ n ∷ []) (are : AreGraphNodes links ns)
    (trees : List (Tree Head)) (view : trees_of links [] ns ≡ trees) (within : All (λ i. i < length trees) args) (from : n.from ≡ length links) (to : n.to ≡ length links') where
  in_nodes : All (λ i. i < length ns) args
  in_nodes k d lt = omega (arith, within k d lt, count links ns, ap length view)

  last : (n.head ≡ n.head) × (n.from ≡ length links) × (n.to ≡ length links + length args)
  last = (refl, from, to ∙ (ap length e ∙ length-append links args))

  grown : AreGraphNodes links' ns'
  grown = subst (λ (x : List Node). AreGraphNodes links' x) (sym f) (subst (λ (x : List ℕ). AreGraphNodes x (ns ++ n ∷ [])) (sym e) (nodes_more links ns are n.head args in_nodes n last))

  added : (place : ℕ) → place ≡ length ns → AddsTerm trees (trees_of links' [] ns') place (node n.head (forest (terms_at trees args)))
  added place is =
      let t : Tree Head = node n.head (forest (terms_at trees args)) in
      let whole : trees_of links' [] ns' ≡ trees ++ t ∷ [] =
      (λ i. trees_of (e i) [] (f i)) ∙ (trees_more links ns are n.head args in_nodes n last ∙ ap (λ (ts : List (Tree Head)). ts ++ node n.head (forest (terms_at ts args)) ∷ []) view) in
      let here : length trees ≡ place = omega (arith, count links ns, ap length view) in
      subst (λ (ts : List (Tree Head)). AddsTerm trees ts place t) (sym whole) (subst (λ i. AddsTerm trees (trees ++ t ∷ []) i t) here (AddsTerm-push trees t))

pub invariant_of-self-2 : goal.invariant_of-self-2
invariant_of-self-2 c =
    let i = c.self.inside in
    grown i.links.items c.extend_from_slice.new.self.items c.args.args.now i.nodes.items c.push.new.self.items _
    c.in_ok-extend_from_slice.ensures.items c.in_ok-push.ensures.items c.self.invariant c.args.self.now c.self.view_is c.requires
    (c.len-from.ensures ∙ i.links.ok.0) (c.len-to.ensures ∙ c.extend_from_slice.new.self.ok.0)

pub returns : goal.returns
returns c =
    let i = c.self.inside in
    added i.links.items c.extend_from_slice.new.self.items c.args.args.now i.nodes.items c.push.new.self.items _
    c.in_ok-extend_from_slice.ensures.items c.in_ok-push.ensures.items c.self.invariant c.args.self.now c.self.view_is c.requires
    (c.len-from.ensures ∙ i.links.ok.0) (c.len-to.ensures ∙ c.extend_from_slice.new.self.ok.0)
    c.len-place.result (c.len-place.ensures ∙ i.nodes.ok.0)
