use Rattle.std.proofs.Common.{sym, ◌∙◌, ap, ◌∷◌, ◌++◌, [], arith}
use Rattle.std.proofs.lemmas.List.{length-take-le, take_all}
use Rattle.hs_passes.specs.Leaving.{by_number, sort_left}
use Rattle.hs_passes.specs.Needing.{kept}
use Rattle.hs_passes.proofs.Remaining.{numbered_more}
use Rattle.hs_passes.proofs.leaving.sorts_left.Goals as goal

pub push_reserved-requires : goal.push_reserved-requires
push_reserved-requires c = omega (arith, c.loop-i.invariant.long, c.loop-i.invariant.room, c.loop-i-test.true)

pub loop-i-preserved : goal.loop-i-preserved
loop-i-preserved c =
    let keep = kept c.args.parameters.now c.args.flags.now in
    let i = c.loop-i.i in
    let sorts = c.args.sorts.now in
    let inv = c.loop-i.invariant in
    record {
      items = c.push_reserved.ensures.items
          ∙ ((λ j. inv.items j ++ (c.in_ok-sort_left.ensures ∙ ap (sort_left (keep i)) c.index-sorts-i.is) j ∷ [])
          ∙ sym (numbered_more (λ f. sort_left (keep f)) sorts i c.index-sorts-i.result c.loop-i-test.true (length-take-le i sorts (omega (arith, c.loop-i-test.true)))));
      long = omega (arith, c.push_reserved.ensures.len, inv.long);
      room = omega (arith, c.push_reserved.ensures.capacity, inv.room);
    }

pub returns : goal.returns
returns c =
    let keep = kept c.args.parameters.now c.args.flags.now in
    c.loop-i.invariant.items ∙ ap (by_number (λ f. sort_left (keep f))) (take_all c.loop-i.i c.args.sorts.now c.loop-i-test.false)
