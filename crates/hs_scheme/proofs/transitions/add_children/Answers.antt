use Rattle.std.proofs.Common.{◌≡◌, ◌∙◌, ap, subst, ℕ, ◌++◌, ◌∷◌, [], cond, List, Some, length, slice_get, get_or, arith}
use Rattle.std.specs.HashMap.{get}
use Rattle.std.proofs.lemmas.Option.{slice_get-get_or}
use Rattle.hs_scheme.specs.Key.{triple_eq}
use Rattle.hs_scheme.specs.acceptance.Transition.{TransitionData}
use Rattle.hs_scheme.specs.acceptance.Transitions.{items_of, GainsReads}
use Rattle.hs_scheme.proofs.TransitionLemmas.{child_more}
use Rattle.hs_scheme.proofs.transitions.add_children.Goals as goal

pub loop-child-preserved : goal.loop-child-preserved
loop-child-preserved c =
    let n = c.loop-child.child in
    let state = get_or c.deref-state-items.result.now n 0 in
    let same : c.deref-state-items.result.now ≡ c.args.transition.now.to = c.deref-state-items.ensures.value ∙ ap (λ (t : TransitionData). t.to) c.transition.view_is in
    child_more c.args.transition.now n state (λ a child s. items_of (get triple_eq c.args.rows.now (a, child, s))) (λ a child s. items_of (get triple_eq c.loop-child.rows (a, child, s)))
    (λ a child s. items_of (get triple_eq c.add_state.new.rows (a, child, s)))
    (subst (λ (xs : List ℕ). slice_get xs n ≡ Some state) same (slice_get-get_or c.deref-state-items.result.now n 0 c.loop-child-test.true))
    (subst (λ (t : TransitionData). (a child s : ℕ) → items_of (get triple_eq c.add_state.new.rows (a, child, s))
    ≡ cond (triple_eq (t.terminal, n, state) (a, child, s)) (items_of (get triple_eq c.loop-child.rows (a, child, s)) ++ t.from ∷ []) (items_of (get triple_eq c.loop-child.rows (a, child, s)))) c.transition.view_is
    (λ a child s. c.in_ok-add_state.ensures (a, child, s)))
    c.loop-child.invariant

pub returns : goal.returns
returns c =
    let same : c.deref-state-items.result.now ≡ c.args.transition.now.to = c.deref-state-items.ensures.value ∙ ap (λ (t : TransitionData). t.to) c.transition.view_is in
    let end : c.loop-child.child ≡ length c.args.transition.now.to = omega (arith, ap length same) in
    subst (λ (n : ℕ). GainsReads c.args.transition.now n (λ a child s. items_of (get triple_eq c.args.rows.now (a, child, s))) (λ a child s. items_of (get triple_eq c.loop-child.rows (a, child, s)))) end c.loop-child.invariant
