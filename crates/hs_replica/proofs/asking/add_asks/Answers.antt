use Rattle.std.proofs.Common.{refl, ◌+◌, ◌<◌, set, length, arith}
use Rattle.std.proofs.lemmas.List.{length-set}
use Rattle.hs_replica.specs.declared.key.Key.TheVariants.{At}
use Rattle.hs_replica.specs.Index.{list_at, log_of}
use Rattle.hs_replica.proofs.ReachLemmas.{number_read, index_same, all_asked}
use Rattle.hs_replica.proofs.AskLemmas.{asks_stopped, asks_more}
use Rattle.hs_replica.proofs.asking.add_asks.Goals as goal

pub returns-in_err-lengthen-clause-index : goal.returns-in_err-lengthen-clause-index
returns-in_err-lengthen-clause-index c types was =
    let ids = c.args.interner.now in
    index_same ids (log_of ids c.args.rows.now) types c.args.asked.now.items c.args.indexed (list_at c.args.lists.now) was types c.lengthen.new.numbers.items (λ p. refl) c.in_err-lengthen.ensures.same

pub loop-place-init : goal.loop-place-init
loop-place-init c =
    let ids = c.args.interner.now in
    record {
      long = c.in_ok-lengthen.ensures.long;
      index = λ types was. index_same ids (log_of ids c.args.rows.now) types c.args.asked.now.items c.args.indexed (list_at c.args.lists.now) was types c.lengthen.new.numbers.items (λ p. refl) c.in_ok-lengthen.ensures.same;
    }

pub next_at-requires : goal.next_at-requires
next_at-requires c = (c.loop-place.invariant.index c.requires.index.0 c.requires.index.1).rises (At c.args.point)

pub returns-in_err-add_row-clause-index : goal.returns-in_err-add_row-clause-index
returns-in_err-add_row-clause-index c types was =
    asks_stopped c.args.interner.now c.know_numbers.ensures c.args.rows.now types c.loop-place.asked.items c.args.indexed c.args.point (list_at c.loop-place.lists) (c.loop-place.invariant.index types was)
    c.requires.within c.loop-place.invariant.long c.index.result.now c.index.ensures c.in-Some.place c.in-Some.ensures.there c.in-Some.ensures.first c.index-rows-place.result c.index-rows-place.is
    (list_at c.add_row.new.lists) c.in_err-add_row.ensures.gains

pub loop-place-preserved : goal.loop-place-preserved
loop-place-preserved c =
    let asked = c.loop-place.asked.items in
    let point = c.args.point in
    let place = c.in-Some.place in
    let later : point < length (set asked point place) = omega (arith, length-set asked point place, c.loop-place.invariant.long) in
    record {
      long = omega (arith, length-set (set asked point place) point (place + 1), later);
      index = λ types was.
          asks_more c.args.interner.now c.know_numbers.ensures c.args.rows.now types asked c.args.indexed point (list_at c.loop-place.lists) (c.loop-place.invariant.index types was)
          c.requires.within c.loop-place.invariant.long c.index.result.now c.index.ensures place c.in-Some.ensures.there c.in-Some.ensures.first c.index-rows-place.result c.index-rows-place.is
          (list_at c.add_row.new.lists) c.in_ok-add_row.ensures.gains c.in_ok-add_row.ensures.all;
    }

pub returns-clause-ok : goal.returns-clause-ok
returns-clause-ok c =
    let ids = c.args.interner.now in
    let types = c.requires.index.0 in
    let asked = c.loop-place.asked.items in
    let point = c.args.point in
    all_asked ids (log_of ids c.args.rows.now) types asked c.args.indexed (list_at c.loop-place.lists) (c.loop-place.invariant.index types c.requires.index.1) c.know_numbers.ensures point
    (λ i there lt. omega (arith, number_read asked point c.index.result.now c.loop-place.invariant.long c.index.ensures, c.in_default.ensures.none i there lt))
