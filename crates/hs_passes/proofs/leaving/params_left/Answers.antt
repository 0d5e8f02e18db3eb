use Rattle.std.proofs.Common.{◌<◌, ◌≤◌, sym, ◌∙◌, ap, ◌∷◌, ◌++◌, [], length, map, arith}
use Rattle.std.proofs.lemmas.List.{length-take-le, length-map, map-append, take_all}
use Rattle.std.proofs.Math.ListN.{get_or-map}
use Rattle.hs_passes.specs.Leaving.{by_number}
use Rattle.hs_passes.specs.Needing.{kept}
use Rattle.hs_passes.specs.Selection.{chosen}
use Rattle.hs_passes.proofs.Remaining.{numbered_more}
use Rattle.hs_passes.proofs.leaving.params_left.Goals as goal

pub push_reserved-requires : goal.push_reserved-requires
push_reserved-requires c = omega (arith, c.loop-i.invariant.long, c.loop-i.invariant.room, c.loop-i-test.true)

pub loop-i-preserved : goal.loop-i-preserved
loop-i-preserved c =
    let keep = kept c.args.parameters.now c.args.flags.now in
    let i = c.loop-i.i in
    let all = map (λ names. names.items) c.args.params.now in
    let lt : i < length all = omega (arith, c.loop-i-test.true, length-map c.args.params.now (λ names. names.items)) in
    let item = c.index-params-i.result in
    let inv = c.loop-i.invariant in
    record {
      items = ap (map (λ names. names.items)) c.push_reserved.ensures.items
          ∙ (map-append (λ names. names.items) c.loop-i.out.items _
          ∙ ((λ j. inv.items j ++ (c.in_ok-names_left.ensures ∙ (ap (chosen (keep i)) (c.as_slice.ensures.value ∙ (ap (λ v. v.items) c.index-params-i.is ∙ sym (get_or-map (λ names. names.items) c.args.params.now i item))))) j ∷ [])
          ∙ sym (numbered_more (λ f. chosen (keep f)) all i item.items lt (length-take-le i all (omega (arith, lt))))));
      long = omega (arith, c.push_reserved.ensures.len, inv.long);
      room = omega (arith, c.push_reserved.ensures.capacity, inv.room);
    }

pub returns : goal.returns
returns c =
    let keep = kept c.args.parameters.now c.args.flags.now in
    let all = map (λ names. names.items) c.args.params.now in
    let end : length all ≤ c.loop-i.i = omega (arith, c.loop-i-test.false, length-map c.args.params.now (λ names. names.items)) in
    c.loop-i.invariant.items ∙ ap (by_number (λ f. chosen (keep f))) (take_all c.loop-i.i all end)
