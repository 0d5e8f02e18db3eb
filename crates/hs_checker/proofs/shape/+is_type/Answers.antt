use Rattle.std.proofs.Common.{◌≡◌, sym, ◌∙◌, ap, subst, List, Contains, true, false}
use Rattle.std.proofs.lemmas.List.{take_all}
use Rattle.hs_table.specs.Types.{TypeTree, IsSet, IsType}
use Rattle.hs_table.specs.TypeView.{type_of}
use Rattle.hs_checker.specs.Shape.{AreAllTypes}
use Rattle.hs_checker.proofs.ShapeLemmas.{arrow_parts, arrow_whole, all_more}
use Rattle.hs_checker.proofs.shape.+is_type.Goals as goal

pub returns-then-not-is_type : goal.returns-then-not-is_type
returns-then-not-is_type t c =
    let is = sym c.ty.view_is ∙ ap type_of c.in-Arrow.is in (
      λ e. let f : false ≡ true = e in absurd (cc),
      λ typed.
          let parts = arrow_parts c.args.states c.in-Arrow.set.items c.in-Arrow.rest.value (subst (λ z. IsType c.args.states z) is typed) in
          let there : Contains c.in-Arrow.set.items c.member-item.result = subst (λ (xs : List TypeTree). Contains xs c.member-item.result) c.deref-member-items.ensures.value (c.loop-member.member-index, c.loop-member-test.true, sym c.member-item.is) in
          sym c.if-not-is_type.true ∙ c.is_type.ensures.1 (parts.1.1 c.member-item.result there),
    )

pub returns-then-is_set : goal.returns-then-is_set
returns-then-is_set t c =
    let is = sym c.ty.view_is ∙ ap type_of c.in-Arrow.is in
    let items = c.deref-member-items.result.now in
    let all = subst (λ (xs : List TypeTree). AreAllTypes c.args.states xs) (take_all c.loop-member.member-index items c.loop-member-test.false ∙ c.deref-member-items.ensures.value) c.loop-member.invariant in
    let set = subst (λ (xs : List TypeTree). IsSet xs) c.as_slice.ensures.value (c.is_set.ensures.0 c.if-is_set.true) in (
      λ h. subst (λ z. IsType c.args.states z) (sym is) (arrow_whole c.args.states c.in-Arrow.set.items c.in-Arrow.rest.value (subst (λ z. IsType c.args.states z) c.deref.ensures (c.is_type-then-is_set.ensures.0 h)) set all),
      λ typed.
          let parts = arrow_parts c.args.states c.in-Arrow.set.items c.in-Arrow.rest.value (subst (λ z. IsType c.args.states z) is typed) in
          c.is_type-then-is_set.ensures.1 (subst (λ z. IsType c.args.states z) (sym c.deref.ensures) parts.0),
    )

pub returns-else-is_set : goal.returns-else-is_set
returns-else-is_set t c =
    let is = sym c.ty.view_is ∙ ap type_of c.in-Arrow.is in (
      λ h. let f : true ≡ false = sym h ∙ c.if-is_set.false in absurd (cc),
      λ typed.
          let parts = arrow_parts c.args.states c.in-Arrow.set.items c.in-Arrow.rest.value (subst (λ z. IsType c.args.states z) is typed) in
          c.is_set.ensures.1 (subst (λ (xs : List TypeTree). IsSet xs) (sym c.as_slice.ensures.value) parts.1.0),
    )

pub loop-member-preserved : goal.loop-member-preserved
loop-member-preserved t c =
    all_more c.args.states c.deref-member-items.result.now c.loop-member.member-index c.member-item.result c.loop-member-test.true c.member-item.is c.loop-member.invariant
    (c.is_type.ensures.0 c.if-not-is_type.false)
