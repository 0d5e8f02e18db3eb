use Rattle.std.proofs.Common.{◌≡◌, ◌∙◌, ap, sym, map, ◌++◌}
use Rattle.hs_reader.specs.declared.raw.RawName.{RawName}
use Rattle.hs_reader.specs.Raw.{Transition}
use Rattle.hs_resolve.specs.Names.{texts, number, with_name, with_names}
use Rattle.hs_resolve.specs.Numbering as definition
use Rattle.hs_resolve.proofs.Moves.{number-later}
use Rattle.hs_resolve.proofs.numbering.transition_of.Goals as goal

pub returns-clause-states : goal.returns-clause-states
returns-clause-states c =
    c.in_ok-to.ensures.states
    ∙ ((λ i. with_names (c.in_ok-from.ensures.added i) (texts (c.as_slice.ensures.value i))) ∙ ap (λ (t : Transition). with_names c.args.states.now (definition.states_in t)) c.raw.view_is)

pub returns-clause-terminals : goal.returns-clause-terminals
returns-clause-terminals c = c.in_ok-terminal.ensures.added ∙ ap (λ (t : Transition). with_name c.args.terminals.now t.terminal.text) c.raw.view_is

pub returns-clause-transition : goal.returns-clause-transition
returns-clause-transition c = λ p a.
    let states = c.numbers_of.new.states in
    let x = c.raw.inside.from.text in
    let from : c.in_ok-from.from ≡ number (states ++ p) x =
    number-later c.number_in.new.index (texts c.as_slice.result.now) x c.in_ok-from.from c.in_ok-from.ensures.number p ∙ ap (λ known. number (known ++ p) x) (sym c.in_ok-to.ensures.states) in
    let to : c.in_ok-to.to.items ≡ map (λ (q : RawName). number (states ++ p) q.text) c.raw.inside.to.items =
    c.in_ok-to.ensures.numbers p ∙ ap (map (λ (q : RawName). number (states ++ p) q.text)) c.as_slice.ensures.value in
    let terminal : c.in_ok-terminal.terminal ≡ number (c.number_in-2.new.index ++ a) c.raw.inside.terminal.text = c.in_ok-terminal.ensures.number a in
    (λ i. record { from = from i; terminal = terminal i; to = to i }) ∙ ap (definition.transition_of (states ++ p) (c.number_in-2.new.index ++ a)) c.raw.view_is
