use Rattle.std.proofs.Common.{refl, sym, ◌∙◌, ◌<◌, length, arith}
use Rattle.std.specs.Ordering.{nat_cmp}
use Rattle.std.specs.Cmp.Lexicographic.{slice_cmp}
use Rattle.hs_table.specs.Types.{type_cmp}
use Rattle.hs_table.proofs.OrderLemmas.{slice_cmp_at_end, cmp_past_end, cmp_at_item, cmp_behind}
use Rattle.hs_types.specs.Interned.{type_of_id, set_of_id}
use Rattle.hs_numbered.proofs.Mapped.{mapped_long, mapped_within, mapped_read}
use Rattle.hs_numbered.proofs.order.compare_sets.Goals as goal

pub returns : goal.returns
returns c =
    let I = c.args.interner.now in
    let S = set_of_id I c.args.set in
    let T = set_of_id I c.args.other in
    let m = mapped_long (type_of_id I) c.members-members.result.now S c.members-members.ensures.members in
    let n = mapped_long (type_of_id I) c.members-others.result.now T c.members-others.ensures.members in
    c.cmp.ensures ∙ (λ i. nat_cmp (sym m i) (sym n i))
    ∙ slice_cmp_at_end type_cmp c.loop-place.place S T (omega (arith, m, c.loop-place-test.false)) (omega (arith, m, c.loop-place.auto.place-end)) c.loop-place.invariant.within c.loop-place.invariant.left

pub returns-then-place-others : goal.returns-then-place-others
returns-then-place-others c =
    let I = c.args.interner.now in
    let S = set_of_id I c.args.set in
    let T = set_of_id I c.args.other in
    let k = c.loop-place.place in
    let ms = c.members-members.result.now in
    let m = c.index-members-place.result in
    let n = mapped_long (type_of_id I) c.members-others.result.now T c.members-others.ensures.members in
    cmp_past_end type_cmp (slice_cmp type_cmp) (λ x xs. refl) (λ x y xs ys. refl) k S T (type_of_id I m)
    (mapped_read (type_of_id I) ms S c.members-members.ensures.members k m c.loop-place-test.true c.index-members-place.is)
    (mapped_within (type_of_id I) ms S c.members-members.ensures.members k m c.loop-place-test.true c.index-members-place.is)
    (omega (arith, n, c.if-place-others.true))
    ∙ c.loop-place.invariant.left

pub returns-then-ne : goal.returns-then-ne
returns-then-ne c =
    let I = c.args.interner.now in
    let S = set_of_id I c.args.set in
    let T = set_of_id I c.args.other in
    let k = c.loop-place.place in
    let ms = c.members-members.result.now in
    let m = c.index-members-place.result in
    let os = c.members-others.result.now in
    let o = c.index-others-place.result in
    let n = mapped_long (type_of_id I) os T c.members-others.ensures.members in
    let below : k < length os = omega (arith, n, c.loop-place.invariant.within, c.if-place-others.false) in
    cmp_at_item type_cmp (slice_cmp type_cmp) (λ x xs. refl) (λ x y xs ys. refl) k S T (type_of_id I m)
    (mapped_read (type_of_id I) ms S c.members-members.ensures.members k m c.loop-place-test.true c.index-members-place.is)
    (mapped_within (type_of_id I) ms S c.members-members.ensures.members k m c.loop-place-test.true c.index-members-place.is)
    (type_of_id I o)
    (mapped_read (type_of_id I) os T c.members-others.ensures.members k o below c.index-others-place.is)
    (mapped_within (type_of_id I) os T c.members-others.ensures.members k o below c.index-others-place.is)
    c.compare-by_member.result c.compare-by_member.ensures c.if-ne.ensures
    ∙ c.loop-place.invariant.left

pub loop-place-preserved : goal.loop-place-preserved
loop-place-preserved c =
    let I = c.args.interner.now in
    let S = set_of_id I c.args.set in
    let T = set_of_id I c.args.other in
    let k = c.loop-place.place in
    let ms = c.members-members.result.now in
    let m = c.index-members-place.result in
    let os = c.members-others.result.now in
    let o = c.index-others-place.result in
    let n = mapped_long (type_of_id I) os T c.members-others.ensures.members in
    let below : k < length os = omega (arith, n, c.loop-place.invariant.within, c.if-place-others.false) in
    let there = mapped_within (type_of_id I) os T c.members-others.ensures.members k o below c.index-others-place.is in
    record {
      within = omega (arith, there);
      left =
          cmp_behind type_cmp (slice_cmp type_cmp) (λ x xs. refl) (λ x y xs ys. refl) k S T (type_of_id I m)
          (mapped_read (type_of_id I) ms S c.members-members.ensures.members k m c.loop-place-test.true c.index-members-place.is)
          (mapped_within (type_of_id I) ms S c.members-members.ensures.members k m c.loop-place-test.true c.index-members-place.is)
          (type_of_id I o)
          (mapped_read (type_of_id I) os T c.members-others.ensures.members k o below c.index-others-place.is)
          there
          c.compare-by_member.result c.compare-by_member.ensures c.if-ne.ensures
          ∙ c.loop-place.invariant.left;
    }
