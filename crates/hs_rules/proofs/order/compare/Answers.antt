use Rattle.std.proofs.Common.{refl, ◌∙◌, ◌<◌, length, get_or, arith}
use Rattle.std.specs.Ordering.{nat_cmp}
use Rattle.std.proofs.lemmas.List.{get_or_default}
use Rattle.hs_table.specs.Follows.{premises}
use Rattle.hs_table.proofs.OrderLemmas.{slice_cmp_at_end, cmp_past_end, cmp_at_item, cmp_behind}
use Rattle.hs_rules.specs.Order.{places_cmp}
use Rattle.hs_rules.proofs.order.compare.Goals as goal

pub returns : goal.returns
returns c =
    let xs = premises (record { head = c.args.head; args = c.args.args.now }) in
    let ys = premises (record { head = c.args.other; args = c.args.others.now }) in
    c.cmp.ensures ∙ ((λ i. nat_cmp (c.premise_count-count.ensures i) (c.premise_count-other_count.ensures i))
    ∙ slice_cmp_at_end nat_cmp c.loop-number.number xs ys (omega (arith, c.loop-number-test.false, c.premise_count-count.ensures)) (omega (arith, c.loop-number.auto.number-end, c.premise_count-count.ensures)) c.loop-number.invariant.within
    c.loop-number.invariant.left)

pub returns-then-number-other_count : goal.returns-then-number-other_count
returns-then-number-other_count c =
    let xs = premises (record { head = c.args.head; args = c.args.args.now }) in
    let ys = premises (record { head = c.args.other; args = c.args.others.now }) in
    let n = c.loop-number.number in
    let lt : n < length xs = omega (arith, c.loop-number-test.true, c.premise_count-count.ensures) in
    cmp_past_end nat_cmp places_cmp (λ x zs. refl) (λ x y zs ws. refl) n xs ys (get_or xs n 0) (get_or_default xs n 0 (get_or xs n 0) lt) lt
    (omega (arith, c.if-number-other_count.true, c.premise_count-other_count.ensures))
    ∙ c.loop-number.invariant.left

pub premise-requires : goal.premise-requires
premise-requires c = omega (arith, c.loop-number-test.true, c.premise_count-count.ensures)

pub premise-requires-in-loop-number : goal.premise-requires-in-loop-number
premise-requires-in-loop-number c = omega (arith, c.loop-number.invariant.within, c.if-number-other_count.false, c.premise_count-other_count.ensures)

pub returns-then-ne : goal.returns-then-ne
returns-then-ne c =
    let xs = premises (record { head = c.args.head; args = c.args.args.now }) in
    let ys = premises (record { head = c.args.other; args = c.args.others.now }) in
    let n = c.loop-number.number in
    let x = c.premise.result in
    let y = c.premise-in-loop-number.result in
    let lt : n < length xs = omega (arith, c.loop-number-test.true, c.premise_count-count.ensures) in
    let below : n < length ys = omega (arith, c.loop-number.invariant.within, c.if-number-other_count.false, c.premise_count-other_count.ensures) in
    cmp_at_item nat_cmp places_cmp (λ x zs. refl) (λ x y zs ws. refl) n xs ys x (c.premise.ensures ∙ get_or_default xs n 0 x lt) lt y (c.premise-in-loop-number.ensures ∙ get_or_default ys n 0 y below) below c.cmp-by_place.result c.cmp-by_place.ensures c.if-ne.ensures
    ∙ c.loop-number.invariant.left

pub loop-number-preserved : goal.loop-number-preserved
loop-number-preserved c =
    let xs = premises (record { head = c.args.head; args = c.args.args.now }) in
    let ys = premises (record { head = c.args.other; args = c.args.others.now }) in
    let n = c.loop-number.number in
    let x = c.premise.result in
    let y = c.premise-in-loop-number.result in
    let lt : n < length xs = omega (arith, c.loop-number-test.true, c.premise_count-count.ensures) in
    let below : n < length ys = omega (arith, c.loop-number.invariant.within, c.if-number-other_count.false, c.premise_count-other_count.ensures) in
    record {
      within = omega (arith, below);
      left = cmp_behind nat_cmp places_cmp (λ x zs. refl) (λ x y zs ws. refl) n xs ys x (c.premise.ensures ∙ get_or_default xs n 0 x lt) lt y (c.premise-in-loop-number.ensures ∙ get_or_default ys n 0 y below) below c.cmp-by_place.result c.cmp-by_place.ensures c.if-ne.ensures
          ∙ c.loop-number.invariant.left;
    }
