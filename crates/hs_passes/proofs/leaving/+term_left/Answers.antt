use Rattle.std.proofs.Common.{◌<◌, sym, ◌∙◌, ap, ◌∷◌, ◌++◌, [], length, map, arith}
use Rattle.std.proofs.lemmas.List.{length-map, take_all}
use Rattle.std.proofs.Math.ListN.{get_or-map}
use Rattle.hs_scheme.specs.Tree.{node, forest}
use Rattle.hs_passes.specs.Leaving.{keeps, chosen_trees, head_left, term_left}
use Rattle.hs_passes.specs.Needing.{kept}
use Rattle.hs_passes.specs.Selection.{chosen}
use Rattle.hs_passes.proofs.Choosing.{one_chosen, one_left}
use Rattle.hs_passes.proofs.Remaining.{forest-chosen, forest-terms_left}
use Rattle.hs_passes.proofs.leaving.+term_left.Goals as goal
use Rattle.hs_passes.proofs.leaving.+term_left.Goals.{then-stays_behind+in_ok-term_left+in_ok-push, else-stays_behind}

pub loop-i-preserved : goal.loop-i-preserved
loop-i-preserved t c =
    let keep = kept c.args.parameters.now c.args.flags.now in
    let p = keeps keep c.term.inside.head in
    let us = c.deref-arg-items.result.now in
    let new = term_left keep (keep c.args.rule) in
    let all = map new us in
    let lt : c.loop-i.i < length all = omega (arith, c.loop-i-test.true, length-map us new) in
    let d = new c.arg-item.result in
    elim c.if-stays_behind.branch [
      | then-stays_behind+in_ok-term_left+in_ok-push w ↦
          ap (λ v. v.items) w.args-is
          ∙ (w.in_ok-push.ensures.items
          ∙ ((λ j. c.loop-i.invariant j ++ (w.in_ok-term_left.ensures ∙ (ap new c.arg-item.is ∙ sym (get_or-map new us c.loop-i.i c.arg-item.result))) j ∷ [])
          ∙ sym (one_chosen p all c.loop-i.i d lt (sym c.stays_behind.ensures ∙ w.if-stays_behind.true))))
      | else-stays_behind w ↦
          ap (λ v. v.items) w.args-is
          ∙ (c.loop-i.invariant ∙ sym (one_left p all c.loop-i.i d lt (sym c.stays_behind.ensures ∙ w.if-stays_behind.false)))
    ]

pub returns : goal.returns
returns t c =
    let keep = kept c.args.parameters.now c.args.flags.now in
    let own = keep c.args.rule in
    let p = keeps keep c.term.inside.head in
    let us = c.deref-arg-items.result.now in
    let new = term_left keep own in
    (λ i. node (c.head_left-head.ensures i) (forest ((c.loop-i.invariant ∙ ap (chosen p) (take_all c.loop-i.i (map new us) (omega (arith, c.loop-i-test.false, length-map us new)))) i)))
    ∙ (ap (node (head_left own c.term.inside.head)) (forest-chosen p (map new us) ∙ ap (chosen_trees p) (sym (forest-terms_left keep own us)))
    ∙ (ap (λ vs. term_left keep own (node c.term.inside.head (forest vs))) c.deref-arg-items.ensures.value
    ∙ ap (term_left keep own) c.term.view_is))
