use Rattle.std.proofs.Common.{◌≡◌, refl, sym, subst, ℕ, List, Some, cond, length, nat_eq, arith}
use Rattle.std.specs.HashMap.{get}
use Rattle.hs_scheme.specs.Key.{key_eq, triple_eq}
use Rattle.hs_scheme.specs.acceptance.Transitions.{items_of, IsByTerminal, IsByChild}
use Rattle.hs_scheme.specs.acceptance.Transition.{TransitionData}
use Rattle.hs_scheme.specs.acceptance.Automaton.{is_of, IsDeterministic, IsTransitionIndex}
use Rattle.std.proofs.lemmas.Option.{slice_get_read}
use Rattle.hs_scheme.proofs.TransitionIndex.{index_more}
use Rattle.hs_scheme.proofs.automaton.Automaton.of.Goals as goal

pub loop-place-preserved : goal.loop-place-preserved
loop-place-preserved c =
    let ts = c.deref-transition-items.result.now in
    index_more (λ q a. get key_eq c.loop-place.index (q, a)) (λ q a. get key_eq c.insert.new.self (q, a)) ts c.loop-place.place c.transition-item.result
    (subst IsDeterministic (sym c.deref-transition-items.ensures.value) c.requires.deterministic)
    (slice_get_read ts (length ts) c.loop-place.place c.transition-item.result refl c.loop-place-test.true c.transition-item.is)
    (λ q a. subst (λ (t : TransitionData). get key_eq c.insert.new.self (q, a) ≡ cond (is_of q a t) (Some c.loop-place.place) (get key_eq c.loop-place.index (q, a)))
    c.transition.view_is (c.in_ok-insert.ensures.updates.0 (q, a)))
    c.loop-place.invariant

pub invariant_of-result : goal.invariant_of-result
invariant_of-result c =
    let same = c.deref-transition-items.ensures.value in
    let end : c.loop-place.place ≡ length c.deref-transition-items.result.now = omega arith in (
      c.requires,
      subst (λ (ts : List TransitionData). IsTransitionIndex (λ q a. get key_eq c.loop-place.index (q, a)) ts (length ts)) same
          (subst (λ (n : ℕ). IsTransitionIndex (λ q a. get key_eq c.loop-place.index (q, a)) c.deref-transition-items.result.now n) end c.loop-place.invariant),
      subst (λ (ts : List TransitionData). IsByTerminal ts (length ts) (λ a. items_of (get nat_eq c.in_ok-by_terminal.by_terminal a))) c.as_slice.ensures.value c.in_ok-by_terminal.ensures,
      subst (λ (ts : List TransitionData). IsByChild ts (length ts) (λ a child s. items_of (get triple_eq c.in_ok-by_child.by_child (a, child, s)))) c.as_slice-2.ensures.value c.in_ok-by_child.ensures,
    )
