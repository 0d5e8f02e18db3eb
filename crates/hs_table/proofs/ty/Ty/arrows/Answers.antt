use Rattle.std.proofs.Common.{◌≡◌, ◌∙◌, ◌-◌, take, arith}
use Rattle.hs_table.specs.Types.{arrow, arrows}
use Rattle.hs_table.proofs.MakingLemmas.{arrows_step}
use Rattle.hs_table.proofs.ty.Ty.arrows.Goals as goal

pub loop-left-preserved : goal.loop-left-preserved
loop-left-preserved c =
    let set : c.set.inside.types.items ≡ c.index-sets-left.result = c.set.view_is ∙ c.in_ok-set.ensures in
    record {
      within = omega (arith, c.loop-left.invariant.within);
      whole =
          (λ i. arrows (take (c.loop-left.left - 1) c.args.sets.now) (arrow (set i) (c.in_ok-new.ensures.ok i)))
          ∙ (arrows_step c.loop-left.left c.args.sets.now c.index-sets-left.result c.loop-left.ty c.loop-left-test.true c.loop-left.invariant.within c.index-sets-left.is
          ∙ c.loop-left.invariant.whole);
    }
