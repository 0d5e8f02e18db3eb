use Rattle.std.proofs.Common.{◌≡◌, sym, ◌∙◌, ap, ℕ, length, get_or, arith}
use Rattle.hs_passes.specs.Selection.{number_in}
use Rattle.hs_passes.proofs.Choosing.{told_more}
use Rattle.hs_passes.proofs.fold_aliases.new_numbers.Goals as goal

pub loop-rep-preserved : goal.loop-rep-preserved
loop-rep-preserved c =
    let inv = c.loop-rep.invariant in
    let xs = c.loop-rep.numbers.items in
    let n = c.loop-rep.rep-index in
    let P : ℕ → ℕ = λ h. number_in c.args.places.now (number_in c.args.reps.now h) in
    let long : length xs ≡ n = omega (arith, c.loop-rep.numbers.ok, inv.long) in
    record {
      long = omega (arith, c.push_reserved.ensures.len, inv.long);
      each = λ f lt. ap (λ ys. get_or ys f 0) c.push_reserved.ensures.items
          ∙ told_more xs _ P (λ k l. inv.each k (omega (arith, l, long))) (c.number_at.ensures ∙ ap P (sym long)) f (omega (arith, lt, long));
      room = omega (arith, c.push_reserved.ensures.capacity, inv.room);
    }

pub push_reserved-requires : goal.push_reserved-requires
push_reserved-requires c = omega (arith, c.loop-rep.invariant.long, c.loop-rep.invariant.room, c.loop-rep-test.true)
