use Rattle.std.proofs.Common.{◌≡◌, refl, sym, ◌∙◌, ap, ◌<◌, ◌≤◌, length, drop, arith}
use Rattle.std.specs.Ordering.{nat_cmp}
use Rattle.std.specs.Cmp.Lexicographic.{slice_cmp}
use Rattle.hs_table.specs.Types.{type_cmp}
use Rattle.hs_table.proofs.OrderLemmas.{slice_cmp_at_end, cmp_past_end, cmp_at_item, cmp_behind}
use Rattle.hs_table.proofs.entry.TypeSet.compare.Goals as goal

pub returns : goal.returns
returns c =
    let xs = c.self.inside.types.items in
    let ys = c.other.inside.types.items in
    let items = c.deref-member-items.ensures.value in
    let k = c.loop-place.place in
    let most : length xs ≤ k = omega (arith, c.loop-place-test.false, ap (λ zs. length zs) items) in
    let least : k ≤ length xs = omega (arith, c.loop-place.auto.place-end, ap (λ zs. length zs) items) in
    let left = ap (λ zs. slice_cmp type_cmp (drop k zs) (drop k ys)) (sym items) ∙ (c.loop-place.invariant.left ∙ ap (λ zs. slice_cmp type_cmp zs ys) items) in
    c.cmp.ensures
    ∙ ((λ i. nat_cmp (lengths i) (other_lengths i))
    ∙ (slice_cmp_at_end type_cmp k xs ys most least c.loop-place.invariant.within left ∙ (λ i. slice_cmp type_cmp (c.self.view_is i) (c.other.view_is i))))
  where
    lengths : c.len-2.result ≡ length c.self.inside.types.items
    lengths = c.len-2.ensures ∙ c.self.inside.types.ok.0

    other_lengths : c.len-3.result ≡ length c.other.inside.types.items
    other_lengths = c.len-3.ensures ∙ c.other.inside.types.ok.0

pub returns-then-place-len : goal.returns-then-place-len
returns-then-place-len c =
    let xs = c.deref-member-items.result.now in
    let ys = c.other.inside.types.items in
    let self_is : xs ≡ c.args.self.now = c.deref-member-items.ensures.value ∙ c.self.view_is in
    cmp_past_end type_cmp (slice_cmp type_cmp) (λ x xs. refl) (λ x y xs ys. refl) c.loop-place.place xs ys c.member-item.result c.member-item.is c.loop-place-test.true
    (omega (arith, c.if-place-len.true, c.len.ensures, c.other.inside.types.ok.0))
    ∙ (c.loop-place.invariant.left ∙ (λ i. slice_cmp type_cmp (self_is i) (c.other.view_is i)))

pub returns-then-ne : goal.returns-then-ne
returns-then-ne c =
    let xs = c.deref-member-items.result.now in
    let ys = c.other.inside.types.items in
    let self_is : xs ≡ c.args.self.now = c.deref-member-items.ensures.value ∙ c.self.view_is in
    cmp_at_item type_cmp (slice_cmp type_cmp) (λ x xs. refl) (λ x y xs ys. refl) c.loop-place.place xs ys c.member-item.result c.member-item.is c.loop-place-test.true
    c.index.result.now c.index.ensures (omega (arith, c.loop-place.invariant.within, c.if-place-len.false, c.len.ensures, c.other.inside.types.ok.0))
    c.compare-by_member.result c.compare-by_member.ensures c.if-ne.ensures
    ∙ (c.loop-place.invariant.left ∙ (λ i. slice_cmp type_cmp (self_is i) (c.other.view_is i)))

pub loop-place-preserved : goal.loop-place-preserved
loop-place-preserved c =
    let k = c.loop-place.place in
    let ys = c.other.inside.types.items in
    let below : k < length ys = omega (arith, c.loop-place.invariant.within, c.if-place-len.false, c.len.ensures, c.other.inside.types.ok.0) in
    record {
      within = omega (arith, below);
      left =
          cmp_behind type_cmp (slice_cmp type_cmp) (λ x xs. refl) (λ x y xs ys. refl) k c.deref-member-items.result.now ys c.member-item.result c.member-item.is c.loop-place-test.true
          c.index.result.now c.index.ensures below c.compare-by_member.result c.compare-by_member.ensures c.if-ne.ensures
          ∙ c.loop-place.invariant.left;
    }
