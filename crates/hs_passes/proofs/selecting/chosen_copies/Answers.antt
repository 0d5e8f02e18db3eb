use Rattle.std.proofs.Common.{sym, ◌∙◌, ap, ◌∷◌, ◌++◌, []}
use Rattle.std.proofs.lemmas.Fn.{says_at}
use Rattle.hs_passes.specs.Selection.{stays}
use Rattle.hs_passes.proofs.Choosing.{one_chosen, one_left}
use Rattle.hs_passes.proofs.selecting.chosen_copies.Goals as goal
use Rattle.hs_passes.proofs.selecting.chosen_copies.Goals.{then-keep-i+in_ok-copy+in_ok-push, else-keep-i}

pub loop-i-preserved : goal.loop-i-preserved
loop-i-preserved g c =
    let keep = stays c.args.keep.now in
    elim c.if-keep-i.branch [
      | then-keep-i+in_ok-copy+in_ok-push w ↦
          ap (λ v. v.items) w.out-is
          ∙ (w.in_ok-push.ensures.items
          ∙ ((λ j. c.loop-i.invariant j ++ (c.requires.equal _ _ (says_at g.F.Fn w.copy.ensures w.in_ok-copy.was) ∙ c.index-items-i.is) j ∷ [])
          ∙ sym (one_chosen keep c.args.items.now c.loop-i.i c.index-items-i.result c.loop-i-test.true w.if-keep-i.true)))
      | else-keep-i w ↦
          ap (λ v. v.items) w.out-is
          ∙ (c.loop-i.invariant ∙ sym (one_left keep c.args.items.now c.loop-i.i c.index-items-i.result c.loop-i-test.true w.if-keep-i.false))
    ]
