use Rattle.std.proofs.Common.{refl, sym, ◌∙◌}
use Rattle.hs_types.specs.Interned.{type_of_id, set_of_id}
use Rattle.hs_strength.proofs.LastStates.{none_ends, among}
use Rattle.hs_strength.proofs.last_states.has_last_state.Goals as goal

pub returns-then-last_state-state : goal.returns-then-last_state-state
returns-then-last_state-state c =
    let I = c.args.types.now in
    let member = c.member-item.result in
    let ends = sym c.last_state.ensures ∙ c.if-last_state-state.true in
    (λ _. (type_of_id I member, (among I c.members-members.result.now (set_of_id I c.args.set) member c.members-members.ensures.members (c.loop-member.member-index, c.loop-member-test.true, sym c.member-item.is), ends)), λ _. refl)

pub returns : goal.returns
returns c =
    let I = c.args.types.now in
    (λ h. absurd (cc), λ h. absurd (none_ends I c.members-members.result.now (set_of_id I c.args.set) c.args.state c.members-members.ensures.members c.loop-member.member-index c.loop-member-test.false c.loop-member.invariant h.0 h.1.0 h.1.1))
