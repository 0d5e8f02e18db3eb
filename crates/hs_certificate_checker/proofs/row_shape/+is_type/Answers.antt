use Rattle.std.proofs.Common.{◌≡◌, refl, sym, ◌∙◌, ap, subst, ◌<◌, List, length, map, Contains, true, false, arith}
use Rattle.std.proofs.lemmas.List.{take_all}
use Rattle.hs_scheme.specs.Tree.{height}
use Rattle.hs_table.specs.Types.{TypeTree, IsType}
use Rattle.hs_weak.proofs.ComparingLemmas.{below_heights}
use Rattle.hs_types.specs.Interned.{type_of_id, set_of_id}
use Rattle.hs_numbered.proofs.Mapped.{mapped_long, mapped_within, mapped_read, read_within}
use Rattle.hs_checker.specs.Shape.{AreAllTypes}
use Rattle.hs_checker.proofs.ShapeLemmas.{arrow_parts, arrow_whole, all_more}
use Rattle.hs_certificate_checker.proofs.row_shape.+is_type.Goals as goal

pub is_type-requires : goal.is_type-requires
is_type-requires t c =
    let I = c.args.interner.now in
    let ms = c.members-member-items.result.now in
    let S = set_of_id I c.in-Arrow.set in
    let m = c.member-item.result in
    let are = c.members-member-items.ensures.members in
    let there : Contains S (type_of_id I m) = (c.loop-member.member-index, mapped_within (type_of_id I) ms S are c.loop-member.member-index m c.loop-member-test.true c.member-item.is, sym (mapped_read (type_of_id I) ms S are c.loop-member.member-index m c.loop-member-test.true c.member-item.is)) in
    let lower = below_heights S (type_of_id I m) there in
    let high = ap height c.in-Arrow.ensures.2 in (
      omega (arith, c.decreases, lower, high),
      read_within (λ z. z < length I.types) ms c.loop-member.member-index m c.members-member-items.ensures.range c.loop-member-test.true c.member-item.is,
    )

pub returns-then-not-is_type : goal.returns-then-not-is_type
returns-then-not-is_type t c =
    let I = c.args.interner.now in
    let n = c.args.states in
    let ms = c.members-member-items.result.now in
    let S = set_of_id I c.in-Arrow.set in
    let m = c.member-item.result in
    let k = c.loop-member.member-index in
    let are = c.members-member-items.ensures.members in
    let there : Contains S (type_of_id I m) = (k, mapped_within (type_of_id I) ms S are k m c.loop-member-test.true c.member-item.is, sym (mapped_read (type_of_id I) ms S are k m c.loop-member-test.true c.member-item.is)) in (
      λ e. let f : false ≡ true = e in absurd (cc),
      λ typed.
          let parts = arrow_parts n S (type_of_id I c.in-Arrow.rest) (subst (λ z. IsType n z) c.in-Arrow.ensures.2 typed) in
          sym c.if-not-is_type.true ∙ c.is_type.ensures.1 (parts.1.1 (type_of_id I m) there),
    )

pub loop-member-preserved : goal.loop-member-preserved
loop-member-preserved t c =
    let I = c.args.interner.now in
    let ms = c.members-member-items.result.now in
    let m = c.member-item.result in
    let k = c.loop-member.member-index in
    all_more c.args.states (map (type_of_id I) ms) k (type_of_id I m) (mapped_within (type_of_id I) ms (map (type_of_id I) ms) refl k m c.loop-member-test.true c.member-item.is)
    (mapped_read (type_of_id I) ms (map (type_of_id I) ms) refl k m c.loop-member-test.true c.member-item.is) c.loop-member.invariant (c.is_type.ensures.0 c.if-not-is_type.false)

pub returns-after-loop-member : goal.returns-after-loop-member
returns-after-loop-member t c =
    let I = c.args.interner.now in
    let n = c.args.states in
    let ms = c.members-member-items.result.now in
    let S = set_of_id I c.in-Arrow.set in
    let R = type_of_id I c.in-Arrow.rest in
    let k = c.loop-member.member-index in
    let long = mapped_long (type_of_id I) ms (map (type_of_id I) ms) refl in
    let all : AreAllTypes n S = subst (λ (xs : List TypeTree). AreAllTypes n xs) (take_all k (map (type_of_id I) ms) (omega (arith, long, c.loop-member-test.false)) ∙ c.members-member-items.ensures.members) c.loop-member.invariant in (
      λ h. subst (λ z. IsType n z) (sym c.in-Arrow.ensures.2) (arrow_whole n S R (c.is_type-in-Arrow.ensures.0 h) (c.know_numbers.ensures.set_ascends c.in-Arrow.set) all),
      λ typed. c.is_type-in-Arrow.ensures.1 (arrow_parts n S R (subst (λ z. IsType n z) c.in-Arrow.ensures.2 typed)).0,
    )
