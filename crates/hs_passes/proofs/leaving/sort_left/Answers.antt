use Rattle.std.proofs.Common.{sym, ◌∙◌, ap, ◌∷◌, ◌++◌, []}
use Rattle.std.proofs.lemmas.List.{take_all}
use Rattle.hs_scheme.specs.Tree.{node, forest}
use Rattle.hs_passes.specs.Leaving.{sort_left}
use Rattle.hs_passes.specs.Needing.{kept}
use Rattle.hs_passes.specs.Selection.{chosen}
use Rattle.hs_passes.proofs.Choosing.{one_chosen, one_left}
use Rattle.hs_passes.proofs.Remaining.{forest-chosen}
use Rattle.hs_passes.proofs.leaving.sort_left.Goals as goal
use Rattle.hs_passes.proofs.leaving.sort_left.Goals.{then-is_kept+in_ok-copy+in_ok-push, else-is_kept}

pub loop-i-preserved : goal.loop-i-preserved
loop-i-preserved c =
    let own = kept c.args.parameters.now c.args.flags.now c.args.rule in
    let ks = c.deref-arg-items.result.now in
    elim c.if-is_kept.branch [
      | then-is_kept+in_ok-copy+in_ok-push w ↦
          ap (λ v. v.items) w.args-is
          ∙ (w.in_ok-push.ensures.items
          ∙ ((λ j. c.loop-i.invariant j ++ (w.in_ok-copy.ensures ∙ c.arg-item.is) j ∷ [])
          ∙ sym (one_chosen own ks c.loop-i.i c.arg-item.result c.loop-i-test.true (sym c.is_kept.ensures ∙ w.if-is_kept.true))))
      | else-is_kept w ↦
          ap (λ v. v.items) w.args-is
          ∙ (c.loop-i.invariant ∙ sym (one_left own ks c.loop-i.i c.arg-item.result c.loop-i-test.true (sym c.is_kept.ensures ∙ w.if-is_kept.false)))
    ]

pub returns : goal.returns
returns c =
    let own = kept c.args.parameters.now c.args.flags.now c.args.rule in
    let ks = c.deref-arg-items.result.now in
    ap (λ as_. node tt (forest as_)) (c.loop-i.invariant ∙ ap (chosen own) (take_all c.loop-i.i ks c.loop-i-test.false))
    ∙ (ap (node tt) (forest-chosen own ks)
    ∙ (ap (λ as_. sort_left own (node tt (forest as_))) c.deref-arg-items.ensures.value ∙ ap (sort_left own) c.sort.view_is))
