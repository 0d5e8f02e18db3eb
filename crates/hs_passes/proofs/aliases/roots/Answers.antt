use Rattle.std.proofs.Common.{◌≡◌, sym, ◌∙◌, ap, length, get_or, arith}
use Rattle.hs_passes.proofs.Choosing.{told_more}
use Rattle.hs_passes.proofs.aliases.roots.Goals as goal

pub loop-number-preserved : goal.loop-number-preserved
loop-number-preserved c =
    let inv = c.loop-number.invariant in
    let xs = c.loop-number.roots.items in
    let n = c.loop-number.number in
    let long : length xs ≡ n = omega (arith, c.loop-number.roots.ok, inv.long) in
    record {
      long = omega (arith, c.push_reserved.ensures.len, inv.long);
      links = c.root.ensures.links;
      follow = λ rep fol. c.root.ensures.follow rep (inv.follow rep fol);
      each = λ rep fol h lt. ap (λ ys. get_or ys h 0) c.push_reserved.ensures.items
          ∙ told_more xs c.root.result rep (λ k l. inv.each rep fol k (omega (arith, l, long))) (c.root.ensures.root rep (inv.follow rep fol) ∙ ap rep (sym long)) h (omega (arith, lt, long));
      room = omega (arith, c.push_reserved.ensures.capacity, inv.room);
    }

pub push_reserved-requires : goal.push_reserved-requires
push_reserved-requires c = omega (arith, c.loop-number.invariant.long, c.loop-number.invariant.room, c.loop-number-test.true)
