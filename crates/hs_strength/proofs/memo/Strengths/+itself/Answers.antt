use Rattle.std.proofs.Common.{length, arith}
use Rattle.hs_weak.specs.Strength.{AsStrongAs}
use Rattle.hs_types.specs.Interned.{type_of_id, set_of_id}
use Rattle.hs_types.proofs.OrderLemmas.{member_lower, member_within}
use Rattle.hs_strength.proofs.Rows.{each_all, each_mapped, on_ok}
use Rattle.hs_strength.proofs.Memory.{saw}
use Rattle.hs_strength.proofs.Comparing.{state_itself, arrow_itself, set_itself}
use Rattle.hs_strength.proofs.memo.Strengths.+itself.Goals as goal

pub see_set-see_type-requires : goal.see_set-see_type-requires
see_set-see_type-requires t c =
    let I = c.args.types.now in
    let lower = member_lower I.types (set_of_id I c.args.set) c.members-members.result.now c.loop-member.member-index c.member-item.result c.members-members.ensures.members c.loop-member-test.true c.member-item.is in (
      omega (arith, c.decreases, lower),
      (
        member_within (length I.types) c.members-members.result.now c.loop-member.member-index c.member-item.result c.members-members.ensures.range c.loop-member-test.true c.member-item.is,
        c.loop-member.invariant.memo,
      ),
    )

pub see_set-returns-clause-itself : goal.see_set-returns-clause-itself
see_set-returns-clause-itself t c =
    let I = c.args.types.now in
    let ms = c.members-members.result.now in
    set_itself (set_of_id I c.args.set) (each_mapped (type_of_id I) (λ a. AsStrongAs a a) ms (set_of_id I c.args.set) c.members-members.ensures.members
    (each_all (λ m. AsStrongAs (type_of_id I m) (type_of_id I m)) ms c.loop-member.member-index (omega (arith, c.loop-member-test.false)) c.loop-member.invariant.seen))

pub see_type-returns-in-State-clause-itself : goal.see_type-returns-in-State-clause-itself
see_type-returns-in-State-clause-itself t c =
    let x = type_of_id c.args.types.now c.args.ty in
    on_ok c.see.result (AsStrongAs x x) (state_itself x c.in-State.field-0 c.in-State.ensures)

pub see_type-returns-in-State-clause-memo : goal.see_type-returns-in-State-clause-memo
see_type-returns-in-State-clause-memo t c =
    let x = type_of_id c.args.types.now c.args.ty in
    saw c.args.types.now c.args.self.now c.see.new.self c.args.ty c.requires.memo c.requires.ty (state_itself x c.in-State.field-0 c.in-State.ensures) c.see.ensures

pub see_type-returns-in_ok-see_set-in-Arrow-clause-itself : goal.see_type-returns-in_ok-see_set-in-Arrow-clause-itself
see_type-returns-in_ok-see_set-in-Arrow-clause-itself t c =
    let I = c.args.types.now in
    let x = type_of_id I c.args.ty in
    on_ok c.see-in-Arrow.result (AsStrongAs x x)
    (arrow_itself x (set_of_id I c.in-Arrow.set) (type_of_id I c.in-Arrow.rest) c.in-Arrow.ensures.2 c.in_ok-see_type-in-Arrow.ensures.itself c.in_ok-see_set-in-Arrow.ensures.itself)

pub see_type-returns-in_ok-see_set-in-Arrow-clause-memo : goal.see_type-returns-in_ok-see_set-in-Arrow-clause-memo
see_type-returns-in_ok-see_set-in-Arrow-clause-memo t c =
    let I = c.args.types.now in
    let x = type_of_id I c.args.ty in
    saw I c.see_set.new.self c.see-in-Arrow.new.self c.args.ty c.see_set.ensures.memo c.requires.ty
    (arrow_itself x (set_of_id I c.in-Arrow.set) (type_of_id I c.in-Arrow.rest) c.in-Arrow.ensures.2 c.in_ok-see_type-in-Arrow.ensures.itself c.in_ok-see_set-in-Arrow.ensures.itself)
    c.see-in-Arrow.ensures
