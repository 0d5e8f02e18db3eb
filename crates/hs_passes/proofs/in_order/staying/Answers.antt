use Rattle.std.proofs.Common.{ℕ, Bool, ◌∙◌, sym, ap, map, get_or, ◌∷◌, ◌++◌, [], arith}
use Rattle.std.specs.Prelude.{nat_le}
use Rattle.std.proofs.lemmas.List.{take_all}
use Rattle.hs_passes.specs.Order.{never}
use Rattle.hs_passes.proofs.Choosing.{mapped_more}
use Rattle.hs_passes.proofs.in_order.staying.Goals as goal

pub push_reserved-requires : goal.push_reserved-requires
push_reserved-requires c = omega (arith, c.loop-rank.invariant.long, c.loop-rank.invariant.room, c.loop-rank-test.true)

pub loop-rank-preserved : goal.loop-rank-preserved
loop-rank-preserved c =
    let stays : ℕ → Bool = λ rank. nat_le never rank in
    let ranks = c.args.ranks.now in
    let k = c.loop-rank.rank-index in
    record {
      items = c.push_reserved.ensures.items
          ∙ ((λ j. c.loop-rank.invariant.items j ++ stays (get_or ranks k 0) ∷ [])
          ∙ sym (mapped_more stays ranks k 0 c.loop-rank-test.true));
      long = omega (arith, c.push_reserved.ensures.len, c.loop-rank.invariant.long);
      room = omega (arith, c.push_reserved.ensures.capacity, c.loop-rank.invariant.room);
    }

pub returns : goal.returns
returns c = c.loop-rank.invariant.items ∙ ap (map (λ rank. nat_le never rank)) (take_all c.loop-rank.rank-index c.args.ranks.now c.loop-rank-test.false)
