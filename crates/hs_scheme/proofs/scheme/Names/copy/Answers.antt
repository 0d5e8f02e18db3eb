use Rattle.std.proofs.Common.{◌∙◌, arith}
use Rattle.hs_scheme.proofs.Copies.{copied_more}
use Rattle.hs_scheme.proofs.scheme.Names.copy.Goals as goal

pub push_reserved-requires : goal.push_reserved-requires
push_reserved-requires c = omega (arith, c.loop-names.invariant.long, c.loop-names.invariant.room, c.loop-names-test.true)

pub loop-names-preserved : goal.loop-names-preserved
loop-names-preserved c = record {
  items = copied_more (λ ns. ns.items) c.loop-names.params.items c.push_reserved.new.self.items c.deref-names-items.result.now c.loop-names.names-index c.in_ok-copy_all.field-0 c.names-item.result
      c.push_reserved.ensures.items c.loop-names.invariant.items c.loop-names-test.true c.names-item.is (c.in_ok-copy_all.ensures ∙ c.as_slice.ensures.value);
  long = omega (arith, c.push_reserved.ensures.len, c.loop-names.invariant.long);
  room = omega (arith, c.push_reserved.ensures.capacity, c.loop-names.invariant.room);
}
