use Rattle.std.proofs.Common.{◌≡◌, sym, ◌∙◌, ap, length, get_or, arith}
use Rattle.hs_passes.proofs.Choosing.{told_more}
use Rattle.hs_passes.proofs.aliases.own_links.Goals as goal

pub loop-number-preserved : goal.loop-number-preserved
loop-number-preserved c =
    let inv = c.loop-number.invariant in
    let xs = c.loop-number.links.items in
    let long : length xs ≡ c.loop-number.number = omega (arith, c.loop-number.links.ok, inv.long) in
    record {
      long = omega (arith, c.push_reserved.ensures.len, inv.long);
      each = λ f lt. ap (λ ys. get_or ys f 0) c.push_reserved.ensures.items
          ∙ told_more xs c.loop-number.number (λ k. k) (λ k l. inv.each k (omega (arith, l, long))) (sym long) f (omega (arith, lt, long));
      room = omega (arith, c.push_reserved.ensures.capacity, inv.room);
    }

pub push_reserved-requires : goal.push_reserved-requires
push_reserved-requires c = omega (arith, c.loop-number.invariant.long, c.loop-number.invariant.room, c.loop-number-test.true)
