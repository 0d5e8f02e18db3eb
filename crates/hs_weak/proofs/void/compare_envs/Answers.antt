use Rattle.std.proofs.Common.{refl, ◌∙◌, ◌<◌, length, arith}
use Rattle.std.specs.Cmp.Lexicographic.{slice_cmp}
use Rattle.hs_table.specs.Types.{type_cmp}
use Rattle.hs_table.specs.Entries.{env_cmp}
use Rattle.hs_table.proofs.OrderLemmas.{slice_cmp_at_end, cmp_past_end, cmp_at_item, cmp_behind}
use Rattle.hs_weak.proofs.void.compare_envs.Goals as goal

pub returns : goal.returns
returns c =
    c.cmp.ensures
    ∙ slice_cmp_at_end (slice_cmp type_cmp) c.loop-place.place c.args.env.now c.args.other.now c.loop-place-test.false c.loop-place.auto.place-end c.loop-place.invariant.within
    c.loop-place.invariant.left

pub returns-then-place-other : goal.returns-then-place-other
returns-then-place-other c =
    cmp_past_end (slice_cmp type_cmp) env_cmp (λ x xs. refl) (λ x y xs ys. refl) c.loop-place.place c.args.env.now c.args.other.now c.index-env-place.result c.index-env-place.is c.loop-place-test.true
    (omega (arith, c.if-place-other.true))
    ∙ c.loop-place.invariant.left

pub returns-then-ne : goal.returns-then-ne
returns-then-ne c =
    cmp_at_item (slice_cmp type_cmp) env_cmp (λ x xs. refl) (λ x y xs ys. refl) c.loop-place.place c.args.env.now c.args.other.now c.index-env-place.result c.index-env-place.is c.loop-place-test.true
    c.index-other-place.result c.index-other-place.is (omega (arith, c.loop-place.invariant.within, c.if-place-other.false)) c.compare-by_set.result c.compare-by_set.ensures c.if-ne.ensures
    ∙ c.loop-place.invariant.left

pub loop-place-preserved : goal.loop-place-preserved
loop-place-preserved c =
    let below : c.loop-place.place < length c.args.other.now = omega (arith, c.loop-place.invariant.within, c.if-place-other.false) in
    record {
      within = omega (arith, below);
      left =
          cmp_behind (slice_cmp type_cmp) env_cmp (λ x xs. refl) (λ x y xs ys. refl) c.loop-place.place c.args.env.now c.args.other.now c.index-env-place.result c.index-env-place.is c.loop-place-test.true
          c.index-other-place.result c.index-other-place.is below c.compare-by_set.result c.compare-by_set.ensures c.if-ne.ensures
          ∙ c.loop-place.invariant.left;
    }
