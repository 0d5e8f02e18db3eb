use Rattle.std.proofs.Common.{refl, subst, List, arith}
use Rattle.std.proofs.lemmas.List.{take_all}
use Rattle.hs_table.specs.Types.{TypeTree}
use Rattle.hs_types.specs.Interned.{type_of_id, set_of_id}
use Rattle.hs_numbered.proofs.Mapped.{mapped_long, mapped_within, mapped_read}
use Rattle.hs_checker.specs.Shape.{AreAllTypes}
use Rattle.hs_checker.proofs.ShapeLemmas.{all_more}
use Rattle.hs_certificate_checker.proofs.row_shape.are_types.Goals as goal

pub loop-member-preserved : goal.loop-member-preserved
loop-member-preserved c =
    let I = c.args.interner.now in
    let ms = c.members-member-items.result.now in
    let S = set_of_id I c.args.set in
    let m = c.member-item.result in
    let k = c.loop-member.member-index in
    let are = c.members-member-items.ensures.members in
    all_more c.args.states S k (type_of_id I m) (mapped_within (type_of_id I) ms S are k m c.loop-member-test.true c.member-item.is)
    (mapped_read (type_of_id I) ms S are k m c.loop-member-test.true c.member-item.is) c.loop-member.invariant (c.is_type.ensures.0 c.if-not-is_type.false)

pub returns : goal.returns
returns c =
    let I = c.args.interner.now in
    let S = set_of_id I c.args.set in
    let long = mapped_long (type_of_id I) c.members-member-items.result.now S c.members-member-items.ensures.members in
    (λ _. subst (λ (ts : List TypeTree). AreAllTypes c.args.states ts) (take_all c.loop-member.member-index S (omega (arith, long, c.loop-member-test.false))) c.loop-member.invariant, λ _. refl)
