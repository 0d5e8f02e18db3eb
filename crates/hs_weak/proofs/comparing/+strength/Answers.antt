use Rattle.std.proofs.Common.{sym, ◌∙◌, ap, subst, List, arith, ◌↔◌, IsTrue}
use Rattle.hs_table.specs.Types.{TypeTree}
use Rattle.hs_table.specs.TypeView.{type_of}
use Rattle.hs_weak.specs.Strength.{AsStrongAs, AsksEach}
use Rattle.hs_weak.proofs.ComparingLemmas.{below_heights, states_compare, arrows_compare}
use Rattle.hs_weak.proofs.comparing.+strength.Goals as goal

pub asks-is_as_strong-requires : goal.asks-is_as_strong-requires
asks-is_as_strong-requires t c =
    let lower = below_heights c.args.set.now c.member-item.result (c.loop-member.member-index, c.loop-member-test.true, sym c.member-item.is) in
    (omega (arith, c.decreases, lower), tt)

pub asks_each-asks-requires : goal.asks_each-asks-requires
asks_each-asks-requires t c =
    let lower = below_heights c.args.other.now c.member-item.result (c.loop-member.member-index, c.loop-member-test.true, sym c.member-item.is) in
    (omega (arith, c.decreases, lower), tt)

pub is_as_strong-returns-in-State-State : goal.is_as_strong-returns-in-State-State
is_as_strong-returns-in-State-State t c =
    let arm = c.in-State-State in
    states_compare arm.q arm.r c.args.ty.now c.args.other.now (sym c.ty.view_is ∙ ap type_of arm.is-0) (sym c.other.view_is ∙ ap type_of arm.is-1)

pub is_as_strong-returns-then-is_as_strong : goal.is_as_strong-returns-then-is_as_strong
is_as_strong-returns-then-is_as_strong t c =
    let arm = c.in-Arrow-Arrow in
    let results : AsStrongAs arm.rest.value arm.other_rest.value =
    subst (λ (z : TypeTree). AsStrongAs z arm.other_rest.value) c.deref.ensures
    (subst (λ (z : TypeTree). AsStrongAs c.deref.result.now z) c.deref-in-Arrow-Arrow.ensures (c.is_as_strong.ensures.0 c.if-is_as_strong.true)) in
    let asks : IsTrue c.asks_each.result ↔ AsksEach AsStrongAs arm.others.items arm.set.items =
    subst (λ (xs : List TypeTree). IsTrue c.asks_each.result ↔ AsksEach AsStrongAs xs arm.set.items) c.as_slice.ensures.value
    (subst (λ (xs : List TypeTree). IsTrue c.asks_each.result ↔ AsksEach AsStrongAs c.as_slice.result.now xs) c.as_slice-then-is_as_strong.ensures.value c.asks_each.ensures) in
    arrows_compare arm.set.items arm.others.items arm.rest.value arm.other_rest.value c.args.ty.now c.args.other.now
    (sym c.ty.view_is ∙ ap type_of arm.is-0) (sym c.other.view_is ∙ ap type_of arm.is-1) results (IsTrue c.asks_each.result) asks
