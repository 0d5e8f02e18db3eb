use Rattle.std.proofs.Common.{get_or, arith}
use Rattle.std.proofs.lemmas.List.Elements.{Contains-get_or}
use Rattle.hs_reads.specs.Becomings.{AnyBecoming}
use Rattle.hs_reads.proofs.GrowLemmas.{read_own}
use Rattle.hs_reads.proofs.ListingLemmas.{by_parameter_none, by_parameter_more, by_parameter_all, none_apart}
use Rattle.hs_reads.proofs.becoming.by_parameter.Goals as goal

pub loop-becoming-init : goal.loop-becoming-init
loop-becoming-init c = record {
  has = by_parameter_none c.args.params.now c.args.found.now c.in_ok-lists.lists (omega (arith, c.in_ok-lists.ensures.len, c.count.ensures));
  only = none_apart c.args.params.now c.args.found.now c.in_ok-lists.lists c.in_ok-lists.ensures.empty;
}

pub loop-becoming-preserved : goal.loop-becoming-preserved
loop-becoming-preserved c =
    let found = c.args.found.now in
    let k = c.loop-becoming.becoming-index in
    let none : AnyBecoming = record { rule = 0; param = 0; terminal = 0; given = 0 } in
    record {
      has = by_parameter_more c.args.params.now found k (get_or found k none) c.loop-becoming.lists c.add_to_list.new.lists c.loop-becoming-test.true (read_own found k none c.loop-becoming-test.true)
          c.loop-becoming.invariant.has c.in_ok-add_to_list.ensures.len c.in_ok-add_to_list.ensures.kept c.in_ok-add_to_list.ensures.there;
      only = c.in_ok-add_to_list.ensures.only found (Contains-get_or found k none c.loop-becoming-test.true) c.loop-becoming.invariant.only;
    }

pub returns-clause-has : goal.returns-clause-has
returns-clause-has c = by_parameter_all c.args.params.now c.args.found.now c.loop-becoming.becoming-index c.loop-becoming.lists c.loop-becoming-test.false c.loop-becoming.invariant.has
