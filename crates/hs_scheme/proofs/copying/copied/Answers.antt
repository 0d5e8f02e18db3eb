use Rattle.std.proofs.Common.{ap, sym, ◌∙◌, take, ◌++◌, ◌∷◌, [], arith}
use Rattle.std.proofs.lemmas.List.{take_more, take_all}
use Rattle.std.proofs.lemmas.Fn.{says_at}
use Rattle.hs_scheme.proofs.copying.copied.Goals as goal

pub loop-item-init : goal.loop-item-init
loop-item-init g c = record { items = c.in_ok-copies.ensures.items; long = c.in_ok-copies.ensures.len; room = omega (arith, c.in_ok-copies.ensures.capacity) }

pub push_reserved-requires : goal.push_reserved-requires
push_reserved-requires g c = omega (arith, c.loop-item.invariant.long, c.loop-item.invariant.room, c.loop-item-test.true)

pub loop-item-preserved : goal.loop-item-preserved
loop-item-preserved g c =
    let same = c.requires.equal _ _ (says_at g.F.Fn c.copy.ensures c.in_ok-copy.was) in
    record {
      items = c.push_reserved.ensures.items
          ∙ (ap (λ done. done ++ c.in_ok-copy.field-0 ∷ []) c.loop-item.invariant.items
          ∙ (ap (λ item. take c.loop-item.item-index c.args.items.now ++ item ∷ []) (same ∙ c.item-item.is)
          ∙ sym (take_more c.args.items.now c.loop-item.item-index c.item-item.result c.loop-item-test.true)));
      long = omega (arith, c.push_reserved.ensures.len, c.loop-item.invariant.long);
      room = omega (arith, c.push_reserved.ensures.capacity, c.loop-item.invariant.room);
    }

pub returns : goal.returns
returns g c = c.loop-item.invariant.items ∙ take_all c.loop-item.item-index c.args.items.now c.loop-item-test.false
