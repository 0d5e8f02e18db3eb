use Rattle.std.proofs.Common.{arith}
use Rattle.hs_replica.proofs.indexing.add_places.Goals as goal

pub returns-in_err-add_place-clause-index : goal.returns-in_err-add_place-clause-index
returns-in_err-add_place-clause-index c ids by_type asked was = c.in_err-add_place.ensures.index ids by_type asked (c.loop-indexed.invariant.index ids by_type asked was)

pub loop-indexed-preserved : goal.loop-indexed-preserved
loop-indexed-preserved c = record {
  more = omega (arith, c.loop-indexed.invariant.more);
  within = omega (arith, c.loop-indexed-test.true);
  index = λ ids by_type asked was. c.in_ok-add_place.ensures.ok ids by_type asked (c.loop-indexed.invariant.index ids by_type asked was);
}
