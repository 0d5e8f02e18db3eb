use Rattle.std.proofs.Common.{◌≡◌, sym, ap, ◌∙◌, ◌∷◌, ◌++◌, [], arith}
use Rattle.std.specs.List.{range_with_len}
use Rattle.hs_rank.proofs.Sorted.{range_more}
use Rattle.hs_rank.proofs.ordering.numbers_below.Goals as goal

pub loop-number-preserved : goal.loop-number-preserved
loop-number-preserved c = record {
  items = c.push_reserved.ensures.items ∙ (ap (λ xs. xs ++ c.loop-number.number ∷ []) c.loop-number.invariant.items ∙ sym (range_more c.loop-number.number));
  len = omega (arith, c.push_reserved.ensures.len, c.loop-number.invariant.len);
  room = omega (arith, c.push_reserved.ensures.capacity, c.loop-number.invariant.room);
}

pub returns : goal.returns
returns c =
    let end : c.loop-number.number ≡ c.args.n = omega (arith, c.loop-number-test.false, c.loop-number.auto.number-end) in
    c.loop-number.invariant.items ∙ ap (range_with_len 0) end
