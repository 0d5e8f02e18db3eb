use Rattle.std.proofs.Common.{◌∙◌, ap, refl, length, map, [], ◌∷◌}
use Rattle.std.proofs.lemmas.Option.{slice_get_read}
use Rattle.std.proofs.lemmas.List.{take_all}
use Rattle.hs_reader.specs.Raw.{Transition}
use Rattle.hs_resolve.specs.Numbering.{states_in, transition_of}
use Rattle.hs_resolve.proofs.TransitionLoops.{mapped-more, states-more}
use Rattle.hs_resolve.proofs.Moves.{moves-more, moves-all}
use Rattle.hs_resolve.proofs.numbering.number_transitions.Goals as goal

pub loop-transition-init : goal.loop-transition-init
loop-transition-init c = record { terminals = refl; states = c.requires.states; transitions = λ p a. c.in_ok-reserve.ensures.items ∙ c.requires.numbered }

pub loop-transition-preserved : goal.loop-transition-preserved
loop-transition-preserved c =
    let ts = c.args.transitions.now in
    let i = c.loop-transition.transition-index in
    let t = c.transition-item.result in
    let at = slice_get_read ts (length ts) i t refl c.loop-transition-test.true c.transition-item.is in
    let ensured = c.in_ok-transition_of.ensures in
    record {
      terminals = mapped-more (λ (u : Transition). u.terminal.text) ts i t c.args.terminals.now c.loop-transition.terminals c.transition_of.new.terminals at c.loop-transition.invariant.terminals ensured.terminals;
      states = states-more ts i t c.loop-transition.states c.transition_of.new.states at c.loop-transition.invariant.states ensured.states;
      transitions = moves-more ts i t (states_in t) (t.terminal.text ∷ []) c.loop-transition.states c.transition_of.new.states c.loop-transition.terminals c.transition_of.new.terminals
          c.loop-transition.numbered.items c.push.new.self.items c.in_ok-transition_of.field-0 at ensured.states ensured.terminals c.loop-transition.invariant.transitions ensured.transition c.in_ok-push.ensures.items;
    }

pub returns-clause-transitions : goal.returns-clause-transitions
returns-clause-transitions c =
    let ts = c.args.transitions.now in
    moves-all c.loop-transition.states c.loop-transition.terminals _ c.loop-transition.numbered.items c.loop-transition.invariant.transitions
    ∙ ap (map (transition_of c.loop-transition.states c.loop-transition.terminals)) (take_all c.loop-transition.transition-index ts c.loop-transition-test.false)
