use Rattle.std.proofs.Common.{ap, List, [], length, length-append, ◌∷◌, arith}
use Rattle.hs_minimal.specs.Ends.{EndData}
use Rattle.hs_minimal.proofs.FilingLemmas.{none_filed, empty_pushed}
use Rattle.hs_minimal.proofs.filing.nothing_filed.Goals as goal

pub loop-preserved : goal.loop-preserved
loop-preserved c = record {
  long = omega (arith, ap (λ (es : List EndData). length es) c.push_reserved.ensures.items, length-append c.loop.filed.items (c.new.result ∷ []), c.loop.invariant.long);
  empty = empty_pushed c.loop.filed.items _ c.new.result c.new.ensures c.push_reserved.ensures.items c.loop.invariant.empty;
  room = omega (arith, c.push_reserved.ensures.capacity, c.loop.invariant.room);
}

pub push_reserved-requires : goal.push_reserved-requires
push_reserved-requires c = omega (arith, c.loop.filed.ok, c.loop.invariant.long, c.loop.invariant.room, c.loop-test.true)

pub returns-clause-none : goal.returns-clause-none
returns-clause-none c = none_filed c.loop.filed.items c.loop.invariant.empty
