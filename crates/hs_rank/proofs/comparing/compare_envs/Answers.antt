use Rattle.std.proofs.Common.{refl, sym, ◌∙◌, ◌<◌, length, map, arith}
use Rattle.std.specs.Cmp.Lexicographic.{slice_cmp}
use Rattle.std.proofs.lemmas.Bool.{eqb-true}
use Rattle.std.proofs.lemmas.Cmp.{lists_total}
use Rattle.hs_table.specs.Types.{type_cmp}
use Rattle.hs_table.specs.Entries.{env_cmp}
use Rattle.hs_table.proofs.OrderLemmas.{cmp_past_end, cmp_at_item, cmp_behind}
use Rattle.hs_table_laws.proofs.Orders.{type_cmp_total}
use Rattle.hs_types.specs.Interned.{set_of_id, env_of_id}
use Rattle.hs_types.proofs.OrderLemmas.{member_within}
use Rattle.hs_rank.proofs.Reading.{tied_read, read_at_end}
use Rattle.hs_rank.proofs.comparing.compare_envs.Goals as goal

pub returns-then-eq : goal.returns-then-eq
returns-then-eq c = tied_read env_cmp (lists_total (lists_total type_cmp_total)) (env_of_id c.args.interner.now) c.args.env c.args.other (eqb-true c.args.env c.args.other (sym c.if-eq.ensures))

pub compare_sets-by_set-requires-clause-set : goal.compare_sets-by_set-requires-clause-set
compare_sets-by_set-requires-clause-set c =
    member_within (length c.args.interner.now.sets) c.sets-sets.result.now c.loop-place.place c.index-sets-place.result c.sets-sets.ensures.range c.loop-place-test.true c.index-sets-place.is

pub compare_sets-by_set-requires-clause-other : goal.compare_sets-by_set-requires-clause-other
compare_sets-by_set-requires-clause-other c =
    let within : c.loop-place.place < length c.sets-others.result.now = omega (arith, c.loop-place.invariant.within, c.if-place-others.false) in
    member_within (length c.args.interner.now.sets) c.sets-others.result.now c.loop-place.place c.index-others-place.result c.sets-others.ensures.range within c.index-others-place.is

pub returns-then-place-others : goal.returns-then-place-others
returns-then-place-others c =
    let I = c.args.interner.now in
    let f = set_of_id I in
    cmp_past_end (λ a b. slice_cmp type_cmp (f a) (f b)) (λ xs ys. env_cmp (map f xs) (map f ys)) (λ x xs. refl) (λ x y xs ys. refl) c.loop-place.place c.sets-sets.result.now c.sets-others.result.now c.index-sets-place.result
    c.index-sets-place.is c.loop-place-test.true (omega (arith, c.if-place-others.true))
    ∙ (c.loop-place.invariant.left ∙ (λ i. env_cmp (c.sets-sets.ensures.sets i) (c.sets-others.ensures.sets i)))

pub returns-then-ne : goal.returns-then-ne
returns-then-ne c =
    let I = c.args.interner.now in
    let f = set_of_id I in
    cmp_at_item (λ a b. slice_cmp type_cmp (f a) (f b)) (λ xs ys. env_cmp (map f xs) (map f ys)) (λ x xs. refl) (λ x y xs ys. refl) c.loop-place.place c.sets-sets.result.now c.sets-others.result.now c.index-sets-place.result
    c.index-sets-place.is c.loop-place-test.true c.index-others-place.result c.index-others-place.is (omega (arith, c.loop-place.invariant.within, c.if-place-others.false)) c.compare_sets-by_set.result c.compare_sets-by_set.ensures
    c.if-ne.ensures
    ∙ (c.loop-place.invariant.left ∙ (λ i. env_cmp (c.sets-sets.ensures.sets i) (c.sets-others.ensures.sets i)))

pub loop-place-preserved : goal.loop-place-preserved
loop-place-preserved c =
    let I = c.args.interner.now in
    let f = set_of_id I in
    let below : c.loop-place.place < length c.sets-others.result.now = omega (arith, c.loop-place.invariant.within, c.if-place-others.false) in
    record {
      within = omega (arith, below);
      left =
          cmp_behind (λ a b. slice_cmp type_cmp (f a) (f b)) (λ xs ys. env_cmp (map f xs) (map f ys)) (λ x xs. refl) (λ x y xs ys. refl) c.loop-place.place c.sets-sets.result.now c.sets-others.result.now
          c.index-sets-place.result c.index-sets-place.is c.loop-place-test.true c.index-others-place.result c.index-others-place.is below c.compare_sets-by_set.result c.compare_sets-by_set.ensures c.if-ne.ensures
          ∙ c.loop-place.invariant.left;
    }

pub returns : goal.returns
returns c =
    let f = set_of_id c.args.interner.now in
    c.cmp.ensures
    ∙ (read_at_end (slice_cmp type_cmp) f c.loop-place.place c.sets-sets.result.now c.sets-others.result.now c.loop-place-test.false c.loop-place.auto.place-end c.loop-place.invariant.within c.loop-place.invariant.left
    ∙ (λ i. env_cmp (c.sets-sets.ensures.sets i) (c.sets-others.ensures.sets i)))
