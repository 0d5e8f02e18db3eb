use Rattle.std.proofs.Common.{◌<◌, sym, ◌∙◌, ap, ◌∷◌, ◌++◌, [], length, map, arith}
use Rattle.std.proofs.lemmas.List.{length-map, map-append}
use Rattle.std.proofs.Math.ListN.{get_or-map}
use Rattle.hs_passes.specs.Selection.{stays}
use Rattle.hs_passes.proofs.Choosing.{one_chosen, one_left}
use Rattle.hs_passes.proofs.selecting.add_params.Goals as goal
use Rattle.hs_passes.proofs.selecting.add_params.Goals.{then-keep-i+in_ok-copy_all+in_ok-push, else-keep-i}

pub loop-i-preserved : goal.loop-i-preserved
loop-i-preserved c =
    let keep = stays c.args.keep.now in
    let all = map (λ names. names.items) c.args.params.now in
    let lt : c.loop-i.i < length all = omega (arith, c.loop-i-test.true, length-map c.args.params.now (λ names. names.items)) in
    let d = c.index-params-i.result.items in
    elim c.if-keep-i.branch [
      | then-keep-i+in_ok-copy_all+in_ok-push w ↦
          ap (λ v. map (λ names. names.items) v.items) w.out-is
          ∙ (ap (map (λ names. names.items)) w.in_ok-push.ensures.items
          ∙ (map-append (λ names. names.items) c.loop-i.out.items _
          ∙ ((λ j. c.loop-i.invariant j ++ (w.in_ok-copy_all.ensures ∙ (w.as_slice.ensures.value ∙ (ap (λ v. v.items) c.index-params-i.is ∙ sym (get_or-map (λ names. names.items) c.args.params.now c.loop-i.i c.index-params-i.result)))) j ∷ [])
          ∙ sym (one_chosen keep all c.loop-i.i d lt w.if-keep-i.true))))
      | else-keep-i w ↦
          ap (λ v. map (λ names. names.items) v.items) w.out-is
          ∙ (c.loop-i.invariant ∙ sym (one_left keep all c.loop-i.i d lt w.if-keep-i.false))
    ]
