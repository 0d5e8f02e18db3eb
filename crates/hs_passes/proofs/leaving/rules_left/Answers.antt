use Rattle.std.proofs.Common.{◌≡◌, sym, ◌∙◌, ap, ◌∷◌, ◌++◌, [], arith}
use Rattle.std.proofs.lemmas.List.{length-take-le, take_all}
use Rattle.hs_passes.specs.Leaving.{by_number, rule_left}
use Rattle.hs_passes.specs.Needing.{kept}
use Rattle.hs_passes.proofs.Remaining.{numbered_more}
use Rattle.hs_passes.proofs.leaving.rules_left.Goals as goal

pub push_reserved-requires : goal.push_reserved-requires
push_reserved-requires c = omega (arith, c.loop-i.invariant.long, c.loop-i.invariant.room, c.loop-i-test.true)

pub loop-i-preserved : goal.loop-i-preserved
loop-i-preserved c =
    let keep = kept c.args.parameters.now c.args.flags.now in
    let i = c.loop-i.i in
    let rules = c.args.rules.now in
    let inv = c.loop-i.invariant in
    let made : record { params = c.place_of-params.result; body = c.in_ok-body.body } ≡ rule_left keep (keep i) c.index-rules-i.result =
    λ j. record { params = c.place_of-params.ensures j; body = c.in_ok-body.ensures j } in
    record {
      items = c.push_reserved.ensures.items
          ∙ ((λ j. inv.items j ++ (made ∙ ap (rule_left keep (keep i)) c.index-rules-i.is) j ∷ [])
          ∙ sym (numbered_more (λ f. rule_left keep (keep f)) rules i c.index-rules-i.result c.loop-i-test.true (length-take-le i rules (omega (arith, c.loop-i-test.true)))));
      long = omega (arith, c.push_reserved.ensures.len, inv.long);
      room = omega (arith, c.push_reserved.ensures.capacity, inv.room);
    }

pub returns : goal.returns
returns c =
    let keep = kept c.args.parameters.now c.args.flags.now in
    c.loop-i.invariant.items ∙ ap (by_number (λ f. rule_left keep (keep f))) (take_all c.loop-i.i c.args.rules.now c.loop-i-test.false)
