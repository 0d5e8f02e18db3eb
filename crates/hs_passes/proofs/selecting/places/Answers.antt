use Rattle.std.proofs.Common.{◌≡◌, sym, ◌∙◌, ap, true, false, length, get_or, arith}
use Rattle.hs_passes.specs.Selection.{stays, place}
use Rattle.hs_passes.proofs.Choosing.{told_more, place_more}
use Rattle.hs_passes.proofs.selecting.places.Goals as goal
use Rattle.hs_passes.proofs.selecting.places.Goals.{then-stays, else-stays}

pub loop-stays-preserved : goal.loop-stays-preserved
loop-stays-preserved c =
    let keep = stays c.args.keep.now in
    let i = c.loop-stays.stays-index in
    let inv = c.loop-stays.invariant in
    let xs = c.loop-stays.numbers.items in
    let long : length xs ≡ i = omega (arith, c.loop-stays.numbers.ok, inv.long) in
    record {
      next = elim c.if-stays.branch [
        | then-stays w ↦ place_more keep i c.loop-stays.next c.if-stays.next true w.if-stays.true inv.next w.next-is
        | else-stays w ↦ place_more keep i c.loop-stays.next c.if-stays.next false w.if-stays.false inv.next (w.next-is ∙ omega arith)
      ];
      few = elim c.if-stays.branch [
        | then-stays w ↦ omega (arith, w.next-is, inv.few)
        | else-stays w ↦ omega (arith, w.next-is, inv.few)
      ];
      long = omega (arith, c.push_reserved.ensures.len, inv.long);
      each = λ f lt. ap (λ ys. get_or ys f 0) c.push_reserved.ensures.items
          ∙ told_more xs c.loop-stays.next (place keep) (λ k l. inv.each k (omega (arith, l, long))) (inv.next ∙ ap (place keep) (sym long)) f (omega (arith, lt, long));
      room = omega (arith, c.push_reserved.ensures.capacity, inv.room);
    }

pub push_reserved-requires : goal.push_reserved-requires
push_reserved-requires c = omega (arith, c.loop-stays.invariant.long, c.loop-stays.invariant.room, c.loop-stays-test.true)
