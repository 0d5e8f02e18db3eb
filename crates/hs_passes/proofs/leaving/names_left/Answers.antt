use Rattle.std.proofs.Common.{sym, ◌∙◌, ap, ◌∷◌, ◌++◌, []}
use Rattle.hs_passes.specs.Needing.{kept}
use Rattle.hs_passes.proofs.Choosing.{one_chosen, one_left}
use Rattle.hs_passes.proofs.leaving.names_left.Goals as goal
use Rattle.hs_passes.proofs.leaving.names_left.Goals.{then-is_kept+in_ok-copy+in_ok-push, else-is_kept}

pub loop-i-preserved : goal.loop-i-preserved
loop-i-preserved c =
    let own = kept c.args.parameters.now c.args.flags.now c.args.rule in
    elim c.if-is_kept.branch [
      | then-is_kept+in_ok-copy+in_ok-push w ↦
          ap (λ v. v.items) w.out-is
          ∙ (w.in_ok-push.ensures.items
          ∙ ((λ j. c.loop-i.invariant j ++ (w.in_ok-copy.ensures ∙ c.index-names-i.is) j ∷ [])
          ∙ sym (one_chosen own c.args.names.now c.loop-i.i c.index-names-i.result c.loop-i-test.true (sym c.is_kept.ensures ∙ w.if-is_kept.true))))
      | else-is_kept w ↦
          ap (λ v. v.items) w.out-is
          ∙ (c.loop-i.invariant ∙ sym (one_left own c.args.names.now c.loop-i.i c.index-names-i.result c.loop-i-test.true (sym c.is_kept.ensures ∙ w.if-is_kept.false)))
    ]
