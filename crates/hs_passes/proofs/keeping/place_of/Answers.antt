use Rattle.std.proofs.Common.{sym, ◌∙◌, true, false, arith}
use Rattle.hs_passes.specs.Needing.{kept}
use Rattle.hs_passes.proofs.Choosing.{place_more}
use Rattle.hs_passes.proofs.keeping.place_of.Goals as goal
use Rattle.hs_passes.proofs.keeping.place_of.Goals.{then-is_kept, else-is_kept}

pub loop-other-preserved : goal.loop-other-preserved
loop-other-preserved c =
    let own = kept c.args.parameters.now c.args.flags.now c.args.rule in
    let i = c.loop-other.other in
    let inv = c.loop-other.invariant in
    record {
      is = elim c.if-is_kept.branch [
        | then-is_kept w ↦ place_more own i c.loop-other.place c.if-is_kept.place true (sym c.is_kept.ensures ∙ w.if-is_kept.true) inv.is w.place-is
        | else-is_kept w ↦ place_more own i c.loop-other.place c.if-is_kept.place false (sym c.is_kept.ensures ∙ w.if-is_kept.false) inv.is (w.place-is ∙ omega arith)
      ];
      few = elim c.if-is_kept.branch [
        | then-is_kept w ↦ omega (arith, w.place-is, inv.few)
        | else-is_kept w ↦ omega (arith, w.place-is, inv.few)
      ];
    }
