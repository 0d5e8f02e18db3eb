use Rattle.std.proofs.Common.{sym, ◌∙◌}
use Rattle.hs_types.specs.Interned.{type_of_id, set_of_id}
use Rattle.hs_strength.proofs.LastStates.{asks_last, first_of}
use Rattle.hs_strength.proofs.last_states.may_ask_each.Goals as goal

pub returns-in-Some : goal.returns-in-Some
returns-in-Some c =
    let I = c.args.types.now in
    let first = c.in-Some.first.now in
    asks_last (set_of_id I c.args.set) (set_of_id I c.args.other) c.has_last_state.result (type_of_id I first) (first_of I c.members.result.now (set_of_id I c.args.other) first c.members.ensures.members (sym c.in-Some.ensures.value))
    (λ d m last. c.has_last_state.ensures.1 (d, (m, last ∙ sym c.last_state.ensures)))
