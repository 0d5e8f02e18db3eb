use Rattle.std.proofs.Common.{refl, sym, ◌∙◌, ◌<◌, length, arith}
use Rattle.std.specs.Ordering.{nat_cmp}
use Rattle.std.specs.Cmp.Lexicographic.{slice_cmp}
use Rattle.hs_table.specs.Types.{type_cmp}
use Rattle.hs_table.specs.Entries.{env_cmp}
use Rattle.hs_table.proofs.OrderLemmas.{slice_cmp_at_end, cmp_past_end, cmp_at_item, cmp_behind}
use Rattle.hs_types.specs.Interned.{set_of_id, env_of_id}
use Rattle.hs_numbered.proofs.Mapped.{mapped_long, mapped_within, mapped_read}
use Rattle.hs_numbered.proofs.order.compare_envs.Goals as goal

pub returns : goal.returns
returns c =
    let I = c.args.interner.now in
    let S = env_of_id I c.args.env in
    let T = env_of_id I c.args.other in
    let m = mapped_long (set_of_id I) c.sets-sets.result.now S c.sets-sets.ensures.sets in
    let n = mapped_long (set_of_id I) c.sets-others.result.now T c.sets-others.ensures.sets in
    c.cmp.ensures ∙ (λ i. nat_cmp (sym m i) (sym n i))
    ∙ slice_cmp_at_end (slice_cmp type_cmp) c.loop-place.place S T (omega (arith, m, c.loop-place-test.false)) (omega (arith, m, c.loop-place.auto.place-end)) c.loop-place.invariant.within c.loop-place.invariant.left

pub returns-then-place-others : goal.returns-then-place-others
returns-then-place-others c =
    let I = c.args.interner.now in
    let S = env_of_id I c.args.env in
    let T = env_of_id I c.args.other in
    let k = c.loop-place.place in
    let ms = c.sets-sets.result.now in
    let m = c.index-sets-place.result in
    let n = mapped_long (set_of_id I) c.sets-others.result.now T c.sets-others.ensures.sets in
    cmp_past_end (slice_cmp type_cmp) env_cmp (λ x xs. refl) (λ x y xs ys. refl) k S T (set_of_id I m)
    (mapped_read (set_of_id I) ms S c.sets-sets.ensures.sets k m c.loop-place-test.true c.index-sets-place.is)
    (mapped_within (set_of_id I) ms S c.sets-sets.ensures.sets k m c.loop-place-test.true c.index-sets-place.is)
    (omega (arith, n, c.if-place-others.true))
    ∙ c.loop-place.invariant.left

pub returns-then-ne : goal.returns-then-ne
returns-then-ne c =
    let I = c.args.interner.now in
    let S = env_of_id I c.args.env in
    let T = env_of_id I c.args.other in
    let k = c.loop-place.place in
    let ms = c.sets-sets.result.now in
    let m = c.index-sets-place.result in
    let os = c.sets-others.result.now in
    let o = c.index-others-place.result in
    let n = mapped_long (set_of_id I) os T c.sets-others.ensures.sets in
    let below : k < length os = omega (arith, n, c.loop-place.invariant.within, c.if-place-others.false) in
    cmp_at_item (slice_cmp type_cmp) env_cmp (λ x xs. refl) (λ x y xs ys. refl) k S T (set_of_id I m)
    (mapped_read (set_of_id I) ms S c.sets-sets.ensures.sets k m c.loop-place-test.true c.index-sets-place.is)
    (mapped_within (set_of_id I) ms S c.sets-sets.ensures.sets k m c.loop-place-test.true c.index-sets-place.is)
    (set_of_id I o)
    (mapped_read (set_of_id I) os T c.sets-others.ensures.sets k o below c.index-others-place.is)
    (mapped_within (set_of_id I) os T c.sets-others.ensures.sets k o below c.index-others-place.is)
    c.compare_sets-by_set.result c.compare_sets-by_set.ensures c.if-ne.ensures
    ∙ c.loop-place.invariant.left

pub loop-place-preserved : goal.loop-place-preserved
loop-place-preserved c =
    let I = c.args.interner.now in
    let S = env_of_id I c.args.env in
    let T = env_of_id I c.args.other in
    let k = c.loop-place.place in
    let ms = c.sets-sets.result.now in
    let m = c.index-sets-place.result in
    let os = c.sets-others.result.now in
    let o = c.index-others-place.result in
    let n = mapped_long (set_of_id I) os T c.sets-others.ensures.sets in
    let below : k < length os = omega (arith, n, c.loop-place.invariant.within, c.if-place-others.false) in
    let there = mapped_within (set_of_id I) os T c.sets-others.ensures.sets k o below c.index-others-place.is in
    record {
      within = omega (arith, there);
      left =
          cmp_behind (slice_cmp type_cmp) env_cmp (λ x xs. refl) (λ x y xs ys. refl) k S T (set_of_id I m)
          (mapped_read (set_of_id I) ms S c.sets-sets.ensures.sets k m c.loop-place-test.true c.index-sets-place.is)
          (mapped_within (set_of_id I) ms S c.sets-sets.ensures.sets k m c.loop-place-test.true c.index-sets-place.is)
          (set_of_id I o)
          (mapped_read (set_of_id I) os T c.sets-others.ensures.sets k o below c.index-others-place.is)
          there
          c.compare_sets-by_set.result c.compare_sets-by_set.ensures c.if-ne.ensures
          ∙ c.loop-place.invariant.left;
    }
