use Rattle.std.proofs.Common.{◌≡◌, refl, sym, ◌∙◌, ap, List, ◌<◌, ◌≤◌, length, drop, false, not, arith}
use Rattle.std.specs.Bool.{◌==◌}
use Rattle.std.specs.Ordering.{nat_cmp, ordering_index}
use Rattle.std.specs.declared.cmp.Ordering.{Ordering}
use Rattle.std.specs.declared.cmp.Ordering.TheVariants.{Equal, Greater}
use Rattle.hs_scheme.specs.Tree.{forest}
use Rattle.hs_table.specs.Types.{TypeTree, type_cmp, types_cmp}
use Rattle.hs_table.specs.TypeView.{type_of}
use Rattle.hs_table.proofs.OrderLemmas.{cmp_at_end, index_of_equal, cmp_of_arrows, cmp_of_results, cmp_of_rests, cmp_past_end, cmp_at_item, cmp_behind}
use Rattle.hs_table.proofs.ty.Ty.+compare.Goals as goal

pub returns-after-loop-place : goal.returns-after-loop-place
returns-after-loop-place t c =
    let set = c.in-Arrow-Arrow.set in
    let others = c.in-Arrow-Arrow.others in
    let items = c.deref-member-items.ensures.value in
    let k = c.loop-place.place in
    let most : length set.items ≤ k = omega (arith, c.loop-place-test.false, ap (λ xs. length xs) items) in
    let least : k ≤ length set.items = omega (arith, c.loop-place.auto.place-end, ap (λ xs. length xs) items) in
    let left = ap (λ xs. types_cmp (forest (drop k xs)) (forest (drop k others.items))) (sym items) ∙ (c.loop-place.invariant.left ∙ ap (λ xs. types_cmp (forest xs) (forest others.items)) items) in
    let by_sets : nat_cmp (length set.items) (length others.items) ≡ types_cmp (forest set.items) (forest others.items) = cmp_at_end k set.items others.items most least c.loop-place.invariant.within left in
    let by_result : type_cmp c.in-Arrow-Arrow.rest.value c.in-Arrow-Arrow.other_rest.value ≡ Equal =
    ap (λ t. type_cmp t c.in-Arrow-Arrow.other_rest.value) (sym c.deref.ensures) ∙ (ap (type_cmp c.deref.result.now) (sym c.deref-in-Arrow-Arrow.ensures)
    ∙ (sym c.compare-by_result.ensures ∙ index_of_equal c.compare-by_result.result c.if-ne.ensures)) in
    let self_is = ap type_of (sym c.in-Arrow-Arrow.is-0) ∙ c.self.view_is in
    let other_is = ap type_of (sym c.in-Arrow-Arrow.is-1) ∙ c.other.view_is in
    c.cmp-in-Arrow-Arrow.ensures
    ∙ ((λ i. nat_cmp (lengths i) (other_lengths i))
    ∙ (by_sets ∙ (sym (cmp_of_arrows set.items others.items c.in-Arrow-Arrow.rest.value c.in-Arrow-Arrow.other_rest.value by_result)
    ∙ (λ i. type_cmp (self_is i) (other_is i)))))
  where
    lengths : c.len-in-Arrow-Arrow.result ≡ length c.in-Arrow-Arrow.set.items
    lengths = c.len-in-Arrow-Arrow.ensures ∙ c.in-Arrow-Arrow.set.ok.0

    other_lengths : c.len-in-Arrow-Arrow-2.result ≡ length c.in-Arrow-Arrow.others.items
    other_lengths = c.len-in-Arrow-Arrow-2.ensures ∙ c.in-Arrow-Arrow.others.ok.0

pub returns-in-State-Arrow : goal.returns-in-State-Arrow
returns-in-State-Arrow t c =
    let self_is = ap type_of (sym c.in-State-Arrow.is-0) ∙ c.self.view_is in
    let other_is = ap type_of (sym c.in-State-Arrow.is-1) ∙ c.other.view_is in
    λ i. type_cmp (self_is i) (other_is i)

pub returns-in-Arrow-State : goal.returns-in-Arrow-State
returns-in-Arrow-State t c =
    let self_is = ap type_of (sym c.in-Arrow-State.is-0) ∙ c.self.view_is in
    let other_is = ap type_of (sym c.in-Arrow-State.is-1) ∙ c.other.view_is in
    λ i. type_cmp (self_is i) (other_is i)

-- the comparison of the results is that of what they are read as
of_results : (o : Ordering) (t u s r : TypeTree) → o ≡ type_cmp s r → s ≡ t → r ≡ u → o ≡ type_cmp t u
of_results o t u s r e is_s is_r = e ∙ (λ i. type_cmp (is_s i) (is_r i))

equal_results : (o : Ordering) (t u s r : TypeTree) → o ≡ type_cmp s r → s ≡ t → r ≡ u → false ≡ not (ordering_index o == 1) → type_cmp t u ≡ Equal
equal_results o t u s r e is_s is_r same = sym (of_results o t u s r e is_s is_r) ∙ index_of_equal o same

pub returns-then-ne : goal.returns-then-ne
returns-then-ne t c =
    let arm = c.in-Arrow-Arrow in
    cmp_of_results c.compare-by_result.result arm.set.items arm.others.items arm.rest.value arm.other_rest.value c.args.self.now c.args.other.now
    (ap type_of (sym arm.is-0) ∙ c.self.view_is) (ap type_of (sym arm.is-1) ∙ c.other.view_is)
    (of_results c.compare-by_result.result arm.rest.value arm.other_rest.value c.deref.result.now c.deref-in-Arrow-Arrow.result.now c.compare-by_result.ensures c.deref.ensures c.deref-in-Arrow-Arrow.ensures)
    c.if-ne.ensures

-- how the types of two sets are compared
abbrev by_types : List TypeTree → List TypeTree → Ordering
by_types xs ys = types_cmp (forest xs) (forest ys)

pub returns-then-place-len : goal.returns-then-place-len
returns-then-place-len t c =
    let arm = c.in-Arrow-Arrow in
    let k = c.loop-place.place in
    let xs = c.deref-member-items.result.now in
    cmp_of_rests Greater arm.set.items arm.others.items arm.rest.value arm.other_rest.value c.args.self.now c.args.other.now
    (ap type_of (sym arm.is-0) ∙ c.self.view_is) (ap type_of (sym arm.is-1) ∙ c.other.view_is) k xs c.deref-member-items.ensures.value
    (equal_results c.compare-by_result.result arm.rest.value arm.other_rest.value c.deref.result.now c.deref-in-Arrow-Arrow.result.now c.compare-by_result.ensures c.deref.ensures c.deref-in-Arrow-Arrow.ensures c.if-ne.ensures)
    c.loop-place.invariant.left
    (cmp_past_end type_cmp by_types (λ x xs. refl) (λ x y xs ys. refl) k xs arm.others.items c.member-item.result c.member-item.is c.loop-place-test.true
    (omega (arith, c.if-place-len.true, c.len.ensures, arm.others.ok.0)))

pub returns-then-ne-2 : goal.returns-then-ne-2
returns-then-ne-2 t c =
    let arm = c.in-Arrow-Arrow in
    let k = c.loop-place.place in
    let xs = c.deref-member-items.result.now in
    cmp_of_rests c.compare-by_member.result arm.set.items arm.others.items arm.rest.value arm.other_rest.value c.args.self.now c.args.other.now
    (ap type_of (sym arm.is-0) ∙ c.self.view_is) (ap type_of (sym arm.is-1) ∙ c.other.view_is) k xs c.deref-member-items.ensures.value
    (equal_results c.compare-by_result.result arm.rest.value arm.other_rest.value c.deref.result.now c.deref-in-Arrow-Arrow.result.now c.compare-by_result.ensures c.deref.ensures c.deref-in-Arrow-Arrow.ensures c.if-ne.ensures)
    c.loop-place.invariant.left
    (cmp_at_item type_cmp by_types (λ x xs. refl) (λ x y xs ys. refl) k xs arm.others.items c.member-item.result c.member-item.is c.loop-place-test.true c.index.result.now c.index.ensures
    (omega (arith, c.loop-place.invariant.within, c.if-place-len.false, c.len.ensures, arm.others.ok.0)) c.compare-by_member.result c.compare-by_member.ensures c.if-ne-2.ensures)

pub loop-place-preserved : goal.loop-place-preserved
loop-place-preserved t c =
    let k = c.loop-place.place in
    let ys = c.in-Arrow-Arrow.others.items in
    let below : k < length ys = omega (arith, c.loop-place.invariant.within, c.if-place-len.false, c.len.ensures, c.in-Arrow-Arrow.others.ok.0) in
    record {
      within = omega (arith, below);
      left =
          cmp_behind type_cmp by_types (λ x xs. refl) (λ x y xs ys. refl) k c.deref-member-items.result.now ys c.member-item.result c.member-item.is c.loop-place-test.true
          c.index.result.now c.index.ensures below c.compare-by_member.result c.compare-by_member.ensures c.if-ne-2.ensures
          ∙ c.loop-place.invariant.left;
    }
