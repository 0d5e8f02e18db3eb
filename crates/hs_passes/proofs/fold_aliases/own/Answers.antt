use Rattle.std.proofs.Common.{◌≡◌, sym, ◌∙◌, ap, ℕ, Bool, false, length, get_or, arith}
use Rattle.std.specs.Prelude.{nat_eq}
use Rattle.hs_passes.specs.Selection.{number_in}
use Rattle.hs_passes.proofs.Choosing.{read_more}
use Rattle.hs_passes.proofs.fold_aliases.own.Goals as goal

pub loop-number-preserved : goal.loop-number-preserved
loop-number-preserved c =
    let inv = c.loop-number.invariant in
    let xs = c.loop-number.kept.items in
    let n = c.loop-number.number in
    let P : ℕ → Bool = λ h. nat_eq (number_in c.args.reps.now h) h in
    let long : length xs ≡ n = omega (arith, c.loop-number.kept.ok, inv.long) in
    record {
      long = omega (arith, c.push_reserved.ensures.len, inv.long);
      each = λ f lt. ap (λ ys. get_or ys f false) c.push_reserved.ensures.items
          ∙ read_more false xs _ P (λ k l. inv.each k (omega (arith, l, long))) (ap P (sym long)) f (omega (arith, lt, long));
      room = omega (arith, c.push_reserved.ensures.capacity, inv.room);
    }

pub push_reserved-requires : goal.push_reserved-requires
push_reserved-requires c = omega (arith, c.loop-number.invariant.long, c.loop-number.invariant.room, c.loop-number-test.true)
