use Rattle.std.proofs.Common.{◌+◌, ◌-◌, ◌/◌, arith}
use Rattle.std.proofs.lemmas.Option.{slice_get_within}
use Rattle.hs_sorts.proofs.Inferring.{no_rules_sorted, found_if}
use Rattle.hs_sorts.proofs.inference.first_ill_sorted.Goals as goal

pub loop-unsorted-init : goal.loop-unsorted-init
loop-unsorted-init c = record {
  apart = slice_get_within c.args.rules.now 0 c.requires.rules.start.0 c.requires.rules.start.1.0;
  within = omega arith;
  have = no_rules_sorted c.args.rules.now c.args.ranks.now c.requires.rules;
  have_not = c.requires.none;
}

pub loop-unsorted-preserved-then-is_some : goal.loop-unsorted-preserved-then-is_some
loop-unsorted-preserved-then-is_some c = record {
  apart = omega (arith, c.loop-unsorted-test.true, c.loop-unsorted.invariant.apart);
  within = c.loop-unsorted.invariant.within;
  have = found_if c.args.rules.now c.args.ranks.now (c.loop-unsorted.sorted + (c.loop-unsorted.unsorted - c.loop-unsorted.sorted) / 2) c.in_ok-find.field-0 c.in_ok-find.ensures c.if-is_some.ensures;
  have_not = c.loop-unsorted.invariant.have_not;
}
