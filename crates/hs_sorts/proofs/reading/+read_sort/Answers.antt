use Rattle.std.proofs.Common.{◌<◌, sym, ◌∙◌, ap, arith}
use Rattle.hs_sorts.specs.Reading.{size_at}
use Rattle.hs_sorts.proofs.Readings.{with_arguments, with_arguments-o, argument_read, parts_smaller}
use Rattle.hs_sorts.proofs.reading.+read_sort.Goals as goal

pub loop-argument-preserved : goal.loop-argument-preserved
loop-argument-preserved t c =
    let parts = parts_smaller c.args.store.now c.args.measures.now c.requires.measures c.loop-argument.at c.in-Some.argument c.in-Some.rest c.loop-argument.invariant.within c.in-Some.ensures (omega (arith, c.loop-argument.invariant.smaller, c.requires.small)) in
    record {
      within = c.in-Some.ensures.rest;
      smaller = omega (arith, parts, c.loop-argument.invariant.smaller);
      reads = λ v r.
          argument_read (v c.args.node) c.loop-argument.args.items c.push.new.self.items c.in_ok-read_sort.field-0 (v c.loop-argument.at) (v c.in-Some.argument) (v c.in-Some.rest)
          (c.loop-argument.invariant.reads v r) (c.in-Some.ensures.reads v r) (c.in_ok-read_sort.ensures v r) c.in_ok-push.ensures.items;
    }

pub loop-argument-smaller : goal.loop-argument-smaller
loop-argument-smaller t c =
    let parts = parts_smaller c.args.store.now c.args.measures.now c.requires.measures c.loop-argument.at c.in-Some.argument c.in-Some.rest c.loop-argument.invariant.within c.in-Some.ensures (omega (arith, c.loop-argument.invariant.smaller, c.requires.small)) in
    parts.1

pub returns : goal.returns
returns t c = λ v r.
    sym (c.loop-argument.invariant.reads v r ∙ (ap (with_arguments c.loop-argument.args.items) (c.in_default.ensures v r) ∙ with_arguments-o c.loop-argument.args.items))

pub read_sort-requires : goal.read_sort-requires
read_sort-requires t c =
    let parts = parts_smaller c.args.store.now c.args.measures.now c.requires.measures c.loop-argument.at c.in-Some.argument c.in-Some.rest c.loop-argument.invariant.within c.in-Some.ensures (omega (arith, c.loop-argument.invariant.smaller, c.requires.small)) in
    let smaller : size_at c.args.measures.now c.in-Some.argument < t = omega (arith, c.decreases, parts, c.loop-argument.invariant.smaller) in
    (smaller, (c.requires.store, (c.requires.flat, (c.requires.measures, (c.in-Some.ensures.argument, omega (arith, parts, c.loop-argument.invariant.smaller, c.requires.small))))))
