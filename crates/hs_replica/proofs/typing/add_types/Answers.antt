use Rattle.std.proofs.Common.{refl, ◌+◌, ◌<◌, set, length, arith}
use Rattle.std.proofs.lemmas.List.{length-set}
use Rattle.hs_replica.specs.declared.key.Key.TheVariants.{At}
use Rattle.hs_replica.specs.Index.{list_at, log_of}
use Rattle.hs_replica.proofs.ReachLemmas.{number_written, index_same}
use Rattle.hs_replica.proofs.TypesLemmas.{types_next, types_stopped, types_more, types_within, types_all, types_rise}
use Rattle.hs_replica.proofs.typing.add_types.Goals as goal

pub returns-in_err-lengthen-clause-index : goal.returns-in_err-lengthen-clause-index
returns-in_err-lengthen-clause-index c asked was =
    let ids = c.args.interner.now in
    index_same ids (log_of ids c.args.rows.now) c.args.by_type.now.items asked c.args.indexed (list_at c.args.lists.now) was c.lengthen.new.numbers.items asked c.in_err-lengthen.ensures.same (λ p. refl)

pub loop-place-init : goal.loop-place-init
loop-place-init c =
    let ids = c.args.interner.now in
    record {
      long = c.in_ok-lengthen.ensures.long;
      more = λ p. omega (arith, c.in_ok-lengthen.ensures.same p);
      index = λ asked was. index_same ids (log_of ids c.args.rows.now) c.args.by_type.now.items asked c.args.indexed (list_at c.args.lists.now) was c.lengthen.new.numbers.items asked c.in_ok-lengthen.ensures.same (λ p. refl);
    }

pub next_at-requires : goal.next_at-requires
next_at-requires c = (c.loop-place.invariant.index c.requires.index.0 c.requires.index.1).rises (At c.args.point)

pub add_typed-requires-clause-next : goal.add_typed-requires-clause-next
add_typed-requires-clause-next c =
    types_next c.args.interner.now c.know_numbers.ensures (log_of c.args.interner.now c.args.rows.now) c.loop-place.by_type.items c.requires.index.0 c.args.indexed c.args.point (list_at c.loop-place.lists)
    (c.loop-place.invariant.index c.requires.index.0 c.requires.index.1)
    c.loop-place.invariant.long c.index-in-loop-place.result.now c.index-in-loop-place.ensures c.in-Some.place c.in-Some.ensures.there c.in-Some.ensures.first

pub returns-then-index-indexed-clause-index : goal.returns-then-index-indexed-clause-index
returns-then-index-indexed-clause-index c asked was =
    let ids = c.args.interner.now in
    index_same ids (log_of ids c.args.rows.now) c.args.by_type.now.items asked c.args.indexed (list_at c.args.lists.now) was c.lengthen.new.numbers.items asked c.in_ok-lengthen.ensures.same (λ p. refl)

pub returns-in_err-add_typed-clause-index : goal.returns-in_err-add_typed-clause-index
returns-in_err-add_typed-clause-index c asked was =
    types_stopped c.args.interner.now c.know_numbers.ensures (log_of c.args.interner.now c.args.rows.now) c.loop-place.by_type.items asked c.args.indexed c.args.point (list_at c.loop-place.lists)
    (c.loop-place.invariant.index asked was)
    c.loop-place.invariant.long c.index-in-loop-place.result.now c.index-in-loop-place.ensures c.in-Some.place c.in-Some.ensures.there c.in-Some.ensures.first
    (list_at c.add_typed.new.lists) c.in_err-add_typed.ensures.gains

pub returns-in_err-add_typed-clause-more : goal.returns-in_err-add_typed-clause-more
returns-in_err-add_typed-clause-more c =
    types_rise c.args.by_type.now.items c.loop-place.by_type.items c.args.point c.index-in-loop-place.result.now c.in-Some.place c.loop-place.invariant.long c.index-in-loop-place.ensures c.in-Some.ensures.there.0 c.loop-place.invariant.more

pub loop-place-preserved : goal.loop-place-preserved
loop-place-preserved c =
    let by_type = c.loop-place.by_type.items in
    let point = c.args.point in
    let place = c.in-Some.place in
    let long = c.loop-place.invariant.long in
    let later : point < length (set by_type point place) = omega (arith, length-set by_type point place, long) in
    let more = types_rise c.args.by_type.now.items by_type point c.index-in-loop-place.result.now place long c.index-in-loop-place.ensures c.in-Some.ensures.there.0 c.loop-place.invariant.more in
    record {
      long = omega (arith, length-set (set by_type point place) point (place + 1), later);
      more = types_rise c.args.by_type.now.items (set by_type point place) point place (place + 1) later (number_written by_type point place long) (omega arith) more;
      index = λ asked was.
          types_more c.args.interner.now c.know_numbers.ensures (log_of c.args.interner.now c.args.rows.now) by_type asked c.args.indexed point (list_at c.loop-place.lists) (c.loop-place.invariant.index asked was)
          long c.index-in-loop-place.result.now c.index-in-loop-place.ensures place c.in-Some.ensures.there c.in-Some.ensures.first
          (list_at c.add_typed.new.lists) c.in_ok-add_typed.ensures.gains c.in_ok-add_typed.ensures.all;
    }

pub returns-clause-index : goal.returns-clause-index
returns-clause-index c asked was =
    let ids = c.args.interner.now in
    types_all ids c.know_numbers.ensures (log_of ids c.args.rows.now) c.loop-place.by_type.items asked c.args.indexed c.args.point (list_at c.loop-place.lists) (c.loop-place.invariant.index asked was)
    c.loop-place.invariant.long c.index-in-loop-place.result.now c.index-in-loop-place.ensures c.in_default.ensures.none

pub returns-clause-more : goal.returns-clause-more
returns-clause-more c =
    let ids = c.args.interner.now in
    let by_type = c.loop-place.by_type.items in
    types_rise c.args.by_type.now.items by_type c.args.point c.index-in-loop-place.result.now c.args.indexed c.loop-place.invariant.long c.index-in-loop-place.ensures
    (types_within ids c.know_numbers.ensures (log_of ids c.args.rows.now) by_type c.requires.index.0 c.args.indexed c.args.point (list_at c.loop-place.lists)
    (c.loop-place.invariant.index c.requires.index.0 c.requires.index.1) c.loop-place.invariant.long c.index-in-loop-place.result.now c.index-in-loop-place.ensures)
    c.loop-place.invariant.more
