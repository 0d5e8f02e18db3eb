use Rattle.std.proofs.Common.{◌≡◌, ◌^◌, add-one, sym, ◌∙◌, ap, subst, length, arith}
use Rattle.hs_scheme.specs.sorting.Sorted.{SortedData}
use Rattle.hs_scheme.specs.SameTree.{HaveSameTree}
use Rattle.hs_passes.specs.Weight.{weight}
use Rattle.hs_passes.specs.Passing.{KeepsRest}
use Rattle.hs_passes.proofs.Chaining.{none_applied, tally_below, one_applied, stopped, stopped_images, made_by_all, same_images, all_raised, sum_rose}
use Rattle.hs_passes.proofs.chain.simplify.Goals as goal

pub loop-pass-init : goal.loop-pass-init
loop-pass-init g c = none_applied _ _ _ _ _ c.deref_mut-pass-items.ensures.value

pub apply_boxed-requires : goal.apply_boxed-requires
apply_boxed-requires g c =
    tally_below _ _ _ _ _ _ _ c.loop-pass.invariant c.pass-item.result (omega (arith, c.loop-pass-test.true, ap length c.deref_mut-pass-items.ensures.value)) (2 ^ 63) c.requires

pub returns-in-Err-clause-same_images : goal.returns-in-Err-clause-same_images
returns-in-Err-clause-same_images g c =
    stopped_images _ _ _ _ _ _ _ c.loop-pass.invariant c.pass-item.result (omega (arith, c.loop-pass-test.true, ap length c.deref_mut-pass-items.ensures.value))
    c.apply_boxed.new.pass _ (omega (arith, c.deref_mut-pass-items.ensures.len, ap length c.deref_mut-pass-items.ensures.value)) c.in-Err.ensures.same_image

pub returns-in-Err-clause-refused : goal.returns-in-Err-clause-refused
returns-in-Err-clause-refused g c =
    stopped _ _ _ _ _ _ _ c.loop-pass.invariant c.pass-item.result (omega (arith, c.loop-pass-test.true, ap length c.deref_mut-pass-items.ensures.value))
    c.apply_boxed.new.pass c.args.passes.now.len (omega (arith, c.deref_mut-pass-items.ensures.len, ap length c.deref_mut-pass-items.ensures.value)) c.in-Err.ensures.same_image c.in-Err.ensures.refused

pub loop-pass-preserved : goal.loop-pass-preserved
loop-pass-preserved g c =
    let e = c.in-Ok.ensures in
    let t = c.loop-pass.simplified in
    let is : c.replace.new.dest ≡ c.in-Ok.next = c.replace.ensures.after in
    rw add-one (one_applied _ _ _ _ _ _ _ c.loop-pass.invariant c.pass-item.result (omega (arith, c.loop-pass-test.true, ap length c.deref_mut-pass-items.ensures.value)) c.apply_boxed.new.pass c.replace.new.dest
    (record {
      made = is ∙ e.made;
      same_image = e.same_image;
      rest = subst (λ (s : SortedData). KeepsRest t s) (sym is) e.rest;
      tree = subst (λ (s : SortedData). HaveSameTree t.scheme.ranks t.scheme.rules s.scheme.rules) (sym is) e.same_tree;
      lighter = omega (arith, e.lighter, ap weight is);
      rose = omega (arith, e.rose, ap weight is);
    }))

pub returns-clause-made : goal.returns-clause-made
returns-clause-made g c =
    made_by_all _ _ _ _ _ _ _ c.loop-pass.invariant (omega (arith, c.loop-pass-test.false, ap length c.deref_mut-pass-items.ensures.value)) (c.loop-pass.auto.pass-items ∙ ap length c.deref_mut-pass-items.ensures.value)
    c.args.passes.now.len (omega (arith, c.deref_mut-pass-items.ensures.len, ap length c.deref_mut-pass-items.ensures.value))

pub returns-clause-same_images : goal.returns-clause-same_images
returns-clause-same_images g c =
    same_images _ _ _ _ _ _ _ c.loop-pass.invariant (omega (arith, c.loop-pass-test.false, ap length c.deref_mut-pass-items.ensures.value)) (c.loop-pass.auto.pass-items ∙ ap length c.deref_mut-pass-items.ensures.value)
    _ (omega (arith, c.deref_mut-pass-items.ensures.len, ap length c.deref_mut-pass-items.ensures.value))

pub returns-clause-tallies : goal.returns-clause-tallies
returns-clause-tallies g c =
    all_raised _ _ _ _ _ _ _ c.loop-pass.invariant (omega (arith, c.loop-pass-test.false, ap length c.deref_mut-pass-items.ensures.value)) (c.loop-pass.auto.pass-items ∙ ap length c.deref_mut-pass-items.ensures.value)
    _ (omega (arith, c.deref_mut-pass-items.ensures.len, ap length c.deref_mut-pass-items.ensures.value))

pub returns-clause-rose : goal.returns-clause-rose
returns-clause-rose g c =
    sum_rose _ _ _ _ _ _ _ c.loop-pass.invariant (omega (arith, c.loop-pass-test.false, ap length c.deref_mut-pass-items.ensures.value)) (c.loop-pass.auto.pass-items ∙ ap length c.deref_mut-pass-items.ensures.value)
    _ (omega (arith, c.deref_mut-pass-items.ensures.len, ap length c.deref_mut-pass-items.ensures.value))
