use Rattle.std.proofs.Common.{◌≡◌, refl, sym, ◌∙◌, ap, subst, ◌++◌, ◌∷◌, [], false, true, List, ℕ}
use Rattle.std.proofs.lemmas.Result.{err_from_is_err_and}
use Rattle.hs_table.specs.Types.{TypeTree, arrow, type_cmp}
use Rattle.hs_numbered.specs.Certificates.{IsAboveLast}
use Rattle.hs_cert.specs.Front.{IsTypeFront, IsMembersFront}
use Rattle.hs_cert.proofs.Numbers.{faulty_of, positive}
use Rattle.hs_cert.proofs.Reading.{Listed, unread_type, arrow_read, no_members, no_sign, no_result, listed_next, listed_last, no_next, not_above, no_end, comma_shorter}
use Rattle.hs_cert.proofs.types.+types.Goals as goal

pub read_type-returns-then-not-take-clause-faulty : goal.read_type-returns-then-not-take-clause-faulty
read_type-returns-then-not-take-clause-faulty t c = λ h.
    let kept = c.if-not-take.ensures.kept refl in
    unread_type c.args.states.now c.args.limit c.args.ahead.now.bytes.now (c.if-not-take.ensures.differs refl) (λ q rest lt ends e. c.read_state.ensures.faulty h q rest lt ends (kept ∙ e))

pub read_type-returns-in_err-read_members-clause-faulty : goal.read_type-returns-in_err-read_members-clause-faulty
read_type-returns-in_err-read_members-clause-faulty t c = λ h.
    let p = err_from_is_err_and c.from_residual.result c.from_residual.ensures.1 in
    no_members c.args.states.now c.requires.are c.args.limit c.args.ahead.now.bytes.now c.take.new.self.bytes.now (c.if-not-take.ensures.taken refl)
    (c.in_err-read_members.ensures.faulty (faulty_of c.from_residual.result p.0 c.in_err-read_members.field-0.0 p.1 p.2 h))

pub read_type-returns-in_err-expect-clause-faulty : goal.read_type-returns-in_err-expect-clause-faulty
read_type-returns-in_err-expect-clause-faulty t c = λ h.
    let p = err_from_is_err_and c.from_residual-in_err-expect.result c.from_residual-in_err-expect.ensures.1 in
    no_sign c.args.states.now c.requires.are c.args.limit c.args.ahead.now.bytes.now c.take.new.self.bytes.now c.read_members.new.ahead.bytes.now c.read_members.new.set.items (c.if-not-take.ensures.taken refl) c.in_ok-read_members.ensures.read
    (c.in_err-expect.ensures.faulty (faulty_of c.from_residual-in_err-expect.result p.0 c.in_err-expect.field-0.0 p.1 p.2 h))

pub read_type-returns-in_err-rest-clause-faulty : goal.read_type-returns-in_err-rest-clause-faulty
read_type-returns-in_err-rest-clause-faulty t c = λ h.
    let p = err_from_is_err_and c.from_residual-in_err-rest.result c.from_residual-in_err-rest.ensures.1 in
    no_result c.args.states.now c.requires.are c.args.limit c.args.ahead.now.bytes.now c.take.new.self.bytes.now c.read_members.new.ahead.bytes.now c.expect.new.self.bytes.now c.read_members.new.set.items (c.if-not-take.ensures.taken refl)
    c.in_ok-read_members.ensures.read c.in_ok-expect.ensures.read (c.in_err-rest.ensures.faulty (faulty_of c.from_residual-in_err-rest.result p.0 c.in_err-rest.field-0.0 p.1 p.2 h))

pub read_type-returns-clause-read : goal.read_type-returns-clause-read
read_type-returns-clause-read t c =
    let names = c.args.states.now in
    let set = c.read_members.new.set.items in
    subst (λ (u : TypeTree). IsTypeFront names c.args.limit c.args.ahead.now.bytes.now (arrow set u) c.read_type.new.ahead.bytes.now) (sym c.in_ok-new.ensures.ok)
    (arrow_read names c.args.limit c.args.ahead.now.bytes.now c.take.new.self.bytes.now c.read_members.new.ahead.bytes.now c.expect.new.self.bytes.now c.read_type.new.ahead.bytes.now set c.in_ok-rest.rest (positive c.args.limit c.if-limit-eq0.false)
    (c.if-not-take.ensures.taken refl) c.in_ok-read_members.ensures.read c.in_ok-expect.ensures.read c.in_ok-rest.ensures.read)

pub read_members-returns-in_err-ty-clause-faulty : goal.read_members-returns-in_err-ty-clause-faulty
read_members-returns-in_err-ty-clause-faulty t c = λ h s rest m.
    let p = err_from_is_err_and c.from_residual.result c.from_residual.ensures.1 in
    let limit = c.args.limit in
    let names = c.args.states.now in
    let there = subst (λ (x : List ℕ). IsMembersFront names limit x s rest) (sym (c.if-take.ensures.kept refl)) m in
    no_next names c.requires.states.are limit c.take.new.self.bytes.now c.members.ahead.bytes.now c.members.set.items c.members.invariant
    (c.in_err-ty.ensures.faulty (faulty_of c.from_residual.result p.0 c.in_err-ty.field-0.0 p.1 p.2 h)) s rest there

pub read_members-returns-then-not-is_above-clause-faulty : goal.read_members-returns-then-not-is_above-clause-faulty
read_members-returns-then-not-is_above-clause-faulty t c = λ h s rest m.
    let limit = c.args.limit in
    let names = c.args.states.now in
    let ty = c.in_ok-ty.ty in
    let there = subst (λ (x : List ℕ). IsMembersFront names limit x s rest) (sym (c.if-take.ensures.kept refl)) m in
    not_above names c.requires.states.are limit c.take.new.self.bytes.now c.members.ahead.bytes.now c.read_type.new.ahead.bytes.now c.members.set.items ty c.members.invariant c.in_ok-ty.ensures.read
    (λ above. (let f : false ≡ true = c.if-not-is_above.ensures.1 (subst (λ (xs : List TypeTree). IsAboveLast type_cmp xs ty) (sym c.as_slice.ensures.value) above) in cc)) s rest there

pub read_members-members-smaller : goal.read_members-members-smaller
read_members-members-smaller t c =
    comma_shorter c.args.states.now c.args.limit c.members.ahead.bytes.now c.read_type.new.ahead.bytes.now c.take-in-members.new.self.bytes.now c.in_ok-ty.ty c.in_ok-ty.ensures.read (c.if-not-take.ensures.taken refl)

pub read_members-members-preserved : goal.read_members-members-preserved
read_members-members-preserved t c =
    let names = c.args.states.now in
    let all = c.take.new.self.bytes.now in
    let rest = c.take-in-members.new.self.bytes.now in
    let set = c.members.set.items in
    let ty = c.in_ok-ty.ty in
    let above = subst (λ (xs : List TypeTree). IsAboveLast type_cmp xs ty) c.as_slice.ensures.value (c.if-not-is_above.ensures.0 refl) in
    subst (λ (xs : List TypeTree). Listed names c.args.limit all xs rest) (sym (c.in_ok-push.ensures.items ∙ ap (λ (xs : List TypeTree). xs ++ ty ∷ []) c.make_room_for_one.ensures))
    (listed_next names c.args.limit all c.members.ahead.bytes.now c.read_type.new.ahead.bytes.now rest set ty c.members.invariant c.in_ok-ty.ensures.read above (c.if-not-take.ensures.taken refl))

pub read_members-returns-in_err-expect-clause-faulty : goal.read_members-returns-in_err-expect-clause-faulty
read_members-returns-in_err-expect-clause-faulty t c = λ h s rest m.
    let p = err_from_is_err_and c.from_residual-in_err-expect.result c.from_residual-in_err-expect.ensures.1 in
    let limit = c.args.limit in
    let names = c.args.states.now in
    let behind = c.read_type.new.ahead.bytes.now in
    let kept : c.take-in-members.new.self.bytes.now ≡ behind = c.if-not-take.ensures.kept refl in
    let nothing = c.in_err-expect.ensures.faulty (faulty_of c.from_residual-in_err-expect.result p.0 c.in_err-expect.field-0.0 p.1 p.2 h) in
    let there = subst (λ (x : List ℕ). IsMembersFront names limit x s rest) (sym (c.if-take.ensures.kept refl)) m in
    no_end names c.requires.states.are limit c.take.new.self.bytes.now c.members.ahead.bytes.now behind c.members.set.items c.in_ok-ty.ty c.members.invariant c.in_ok-ty.ensures.read (c.if-not-take.ensures.differs refl)
    (λ r e. nothing r (kept ∙ e)) s rest there

pub read_members-returns-then-not-take-clause-read : goal.read_members-returns-then-not-take-clause-read
read_members-returns-then-not-take-clause-read t c =
    let names = c.args.states.now in
    let limit = c.args.limit in
    let all = c.take.new.self.bytes.now in
    let behind = c.read_type.new.ahead.bytes.now in
    let rest = c.expect.new.self.bytes.now in
    let set = c.members.set.items in
    let ty = c.in_ok-ty.ty in
    let above = subst (λ (xs : List TypeTree). IsAboveLast type_cmp xs ty) c.as_slice.ensures.value (c.if-not-is_above.ensures.0 refl) in
    let kept : c.take-in-members.new.self.bytes.now ≡ behind = c.if-not-take.ensures.kept refl in
    let last = listed_last names limit all c.members.ahead.bytes.now behind rest set ty c.members.invariant c.in_ok-ty.ensures.read above (sym kept ∙ c.in_ok-expect.ensures.read) in
    subst (λ (xs : List TypeTree). IsMembersFront names limit c.args.ahead.now.bytes.now xs rest) (sym (c.in_ok-push.ensures.items ∙ ap (λ (xs : List TypeTree). xs ++ ty ∷ []) c.make_room_for_one.ensures))
    (subst (λ (x : List ℕ). IsMembersFront names limit x (set ++ ty ∷ []) rest) (c.if-take.ensures.kept refl) last)
