use Rattle.std.proofs.Common.{◌≡◌, refl, sym, ◌∙◌, ap, subst, true, false, ℕ, ◌<◌, List, take, All, Contains, IsTrue, ◌↔◌}
use Rattle.std.proofs.lemmas.List.{take_all}
use Rattle.std.proofs.lemmas.List.Elements.{All-contains, All-push}
use Rattle.hs_scheme.specs.acceptance.Transition.{TransitionData}
use Rattle.hs_table_laws.proofs.Members.{taken_next}
use Rattle.hs_table_plain.proofs.TableLemmas.{within_as}
use Rattle.hs_table_plain.proofs.table.is_within.Goals as goal

pub returns-then-not-within : goal.returns-then-not-within
returns-then-not-within c =
    let to_is = c.as_slice.ensures.value ∙ ap (λ (t : TransitionData). t.to) c.transition.view_is in
    let here_is = subst (λ (xs : List ℕ). IsTrue c.are_below-within.result ↔ All (λ q. q < c.states-states.result) xs) to_is c.are_below-within.ensures in
    let items = c.transitions-transition-items.result.now in (
      λ e. let f : false ≡ true = e in absurd (cc),
      λ all.
          let mine = within_as c.args.automaton.now.states c.states-states.result c.args.automaton.now.transitions items (sym c.states-states.ensures) (sym c.transitions-transition-items.ensures) all in
          let there : Contains items c.transition-item.result = (c.loop-transition.transition-index, c.loop-transition-test.true, sym c.transition-item.is) in
          sym c.if-not-within.true ∙ here_is.1 (All-contains (λ (t : TransitionData). All (λ q. q < c.states-states.result) t.to) items c.transition-item.result mine there),
    )

pub loop-transition-preserved : goal.loop-transition-preserved
loop-transition-preserved c =
    let to_is = c.as_slice.ensures.value ∙ ap (λ (t : TransitionData). t.to) c.transition.view_is in
    let here_is = subst (λ (xs : List ℕ). IsTrue c.are_below-within.result ↔ All (λ q. q < c.states-states.result) xs) to_is c.are_below-within.ensures in
    let items = c.transitions-transition-items.result.now in
    subst (λ (ts : List TransitionData). All (λ (t : TransitionData). All (λ q. q < c.states-states.result) t.to) ts)
    (sym (taken_next items c.loop-transition.transition-index c.transition-item.result c.loop-transition-test.true c.transition-item.is))
    (All-push (λ (t : TransitionData). All (λ q. q < c.states-states.result) t.to) (take c.loop-transition.transition-index items) c.transition-item.result c.loop-transition.invariant (here_is.0 c.if-not-within.false))

pub returns : goal.returns
returns c =
    let items = c.transitions-transition-items.result.now in
    let mine = subst (λ (ts : List TransitionData). All (λ (t : TransitionData). All (λ q. q < c.states-states.result) t.to) ts) (take_all c.loop-transition.transition-index items c.loop-transition-test.false) c.loop-transition.invariant in
    (λ _. within_as c.states-states.result c.args.automaton.now.states items c.args.automaton.now.transitions c.states-states.ensures c.transitions-transition-items.ensures mine, λ _. refl)
