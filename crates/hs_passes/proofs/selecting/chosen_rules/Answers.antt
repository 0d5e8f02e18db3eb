use Rattle.std.proofs.Common.{◌≡◌, ◌<◌, sym, ◌∙◌, ap, ◌∷◌, ◌++◌, [], length, map, arith}
use Rattle.std.proofs.lemmas.List.{length-map}
use Rattle.std.proofs.Math.ListN.{get_or-map}
use Rattle.hs_scheme.specs.declared.term.Rule.{Rule}
use Rattle.hs_scheme.specs.declared.term.Head.{Head}
use Rattle.hs_scheme.specs.Tree.{Tree}
use Rattle.hs_passes.specs.Selection.{stays, number_in, renamed, renamed_rule}
use Rattle.hs_passes.proofs.Choosing.{one_chosen, one_left}
use Rattle.hs_passes.proofs.selecting.chosen_rules.Goals as goal
use Rattle.hs_passes.proofs.selecting.chosen_rules.Goals.{then-keep-i+in_ok-renamed_term+in_ok-push, else-keep-i}

pub loop-i-preserved : goal.loop-i-preserved
loop-i-preserved c =
    let keep = stays c.args.keep.now in
    let new : Rule → Rule = renamed_rule (number_in c.args.numbers.now) in
    let all = map new c.args.rules.now in
    let lt : c.loop-i.i < length all = omega (arith, c.loop-i-test.true, length-map c.args.rules.now new) in
    let d : Rule = new c.index-rules-i.result in
    let made : (b : Tree Head) → b ≡ renamed (number_in c.args.numbers.now) c.index-rules-i.result.body → record { params = c.index-rules-i.result.params; body = b } ≡ d =
    λ b e. ap (λ u. record { params = c.index-rules-i.result.params; body = u }) e in
    elim c.if-keep-i.branch [
      | then-keep-i+in_ok-renamed_term+in_ok-push w ↦
          ap (λ v. v.items) w.out-is
          ∙ (w.in_ok-push.ensures.items
          ∙ ((λ j. c.loop-i.invariant j ++ (made w.in_ok-renamed_term.field-0 w.in_ok-renamed_term.ensures ∙ (ap new c.index-rules-i.is ∙ sym (get_or-map new c.args.rules.now c.loop-i.i c.index-rules-i.result))) j ∷ [])
          ∙ sym (one_chosen keep all c.loop-i.i d lt w.if-keep-i.true)))
      | else-keep-i w ↦
          ap (λ v. v.items) w.out-is
          ∙ (c.loop-i.invariant ∙ sym (one_left keep all c.loop-i.i d lt w.if-keep-i.false))
    ]
