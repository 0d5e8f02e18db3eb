use Rattle.std.proofs.Common.{◌≡◌, sym, ◌∙◌, ap, ℕ, ◌+◌, ◌<◌, true, false, ◌&&◌, List, ◌∷◌, length, drop, get_or, Option, Some, arith}
use Rattle.std.proofs.lemmas.List.{get_or_default, drop_more}
use Rattle.std.specs.Option.{option_copied, option_map_or}
use Rattle.hs_scheme.specs.acceptance.Transition.{TransitionData}
use Rattle.hs_scheme.specs.acceptance.Automaton.{next}
use Rattle.hs_scheme.specs.Tree.{node, forest}
use Rattle.hs_scheme.specs.acceptance.Cut.{CutTree}
use Rattle.hs_scheme.specs.acceptance.Run.{run, runs}
use Rattle.hs_scheme.proofs.PlainLemmas.{run-length}
use Rattle.hs_scheme.proofs.plain.+run.Goals as goal

-- the child at i is read in the state at i, so the others decide; or it isn't
module _ (ts : List TransitionData) (trees : List CutTree) (qs : List ℕ) (i q : ℕ) (tree : CutTree) (in_trees : i < length trees) (in_states : i < length qs) (at : tree ≡ get_or trees i tree) (state : q ≡ get_or qs i q) where
  at_place : runs ts (forest (drop i trees)) (drop i qs) ≡ run ts q tree && runs ts (forest (drop (i + 1) trees)) (drop (i + 1) qs)
  at_place = λ j. runs ts (forest ((drop_more trees i tree in_trees ∙ ap (λ t. t ∷ drop (i + 1) trees) (sym at)) j)) ((drop_more qs i q in_states ∙ ap (λ p. p ∷ drop (i + 1) qs) (sym state)) j)

  runs-on : run ts q tree ≡ true → runs ts (forest (drop (i + 1) trees)) (drop (i + 1) qs) ≡ runs ts (forest (drop i trees)) (drop i qs)
  runs-on read = sym (at_place ∙ ap (λ b. b && runs ts (forest (drop (i + 1) trees)) (drop (i + 1) qs)) read)

  runs-off : run ts q tree ≡ false → false ≡ runs ts (forest (drop i trees)) (drop i qs)
  runs-off refused = sym (at_place ∙ ap (λ b. b && runs ts (forest (drop (i + 1) trees)) (drop (i + 1) qs)) refused)

-- a node is read as its children are
run-node : (ts : List TransitionData) (q a : ℕ) (tree : CutTree) (label : Option ℕ) (trees : List CutTree) (qs : List ℕ) → node label (forest trees) ≡ tree → label ≡ Some a
    → next ts q a ≡ Some qs → runs ts (forest trees) qs ≡ run ts q tree
run-node ts q a tree label trees qs is at there =
    sym (ap (run ts q) (sym is) ∙ (ap (λ l. run ts q (node l (forest trees))) at ∙ ap (λ o. option_map_or (runs ts (forest trees)) o false) there))

pub returns-in_default : goal.returns-in_default
returns-in_default t c =
    let ts = c.args.automaton.now.transitions in
    ap (λ label. run ts c.args.state (node label (forest c.tree.inside.children.items))) (sym c.in_default.is) ∙ ap (run ts c.args.state) c.tree.view_is

pub returns-then-to-len : goal.returns-then-to-len
returns-then-to-len t c =
    run-length c.args.automaton.now.transitions c.args.state c.in-Some.terminal c.args.tree.now c.tree.inside.terminal c.tree.inside.children.items c.in-Some-next.to.now
    c.tree.view_is c.in-Some.is (sym c.next.ensures ∙ ap option_copied c.in-Some-next.is) (λ e. c.if-to-len.true (e ∙ (sym c.tree.inside.children.ok.0 ∙ sym c.len.ensures)))

pub loop-place-preserved : goal.loop-place-preserved
loop-place-preserved t c =
    let qs = c.in-Some-next.to.now in let i = c.loop-place.place in
    let within : i < length qs = omega (arith, c.loop-place-test.true, c.if-to-len.false, c.len.ensures, c.tree.inside.children.ok.0, ap (λ (us : List CutTree). length us) c.deref-child-items.ensures.value) in
    runs-on c.args.automaton.now.transitions c.deref-child-items.result.now qs i (get_or qs i 0) c.child-item.result c.loop-place-test.true within c.child-item.is (sym (get_or_default qs i (get_or qs i 0) 0 within))
    (sym c.run.ensures ∙ c.if-not-run.false)
    ∙ c.loop-place.invariant

pub returns-then-not-run : goal.returns-then-not-run
returns-then-not-run t c =
    let ts = c.args.automaton.now.transitions in let qs = c.in-Some-next.to.now in let i = c.loop-place.place in
    let within : i < length qs = omega (arith, c.loop-place-test.true, c.if-to-len.false, c.len.ensures, c.tree.inside.children.ok.0, ap (λ (us : List CutTree). length us) c.deref-child-items.ensures.value) in
    runs-off ts c.deref-child-items.result.now qs i (get_or qs i 0) c.child-item.result c.loop-place-test.true within c.child-item.is (sym (get_or_default qs i (get_or qs i 0) 0 within))
    (sym c.run.ensures ∙ c.if-not-run.true)
    ∙ (c.loop-place.invariant ∙ (ap (λ (us : List CutTree). runs ts (forest us) qs) c.deref-child-items.ensures.value
    ∙ run-node ts c.args.state c.in-Some.terminal c.args.tree.now c.tree.inside.terminal c.tree.inside.children.items qs c.tree.view_is c.in-Some.is (sym c.next.ensures ∙ ap option_copied c.in-Some-next.is)))
