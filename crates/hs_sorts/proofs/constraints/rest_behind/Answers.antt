use Rattle.std.proofs.Common.{◌+◌, subst, arith}
use Rattle.hs_sorts.specs.Constraints.{IsNodeFor, TakesArgument}
use Rattle.hs_sorts.proofs.Claiming.{taken_all, taken_more, taken_no_more}
use Rattle.hs_sorts.proofs.constraints.rest_behind.Goals as goal

pub returns-in_default : goal.returns-in_default
returns-in_default c =
    taken_no_more c.args.store.now c.args.node c.args.first c.args.count c.requires.arguments c.loop-place.store c.loop-place.store c.loop-place.place c.loop-place.sort 0 c.loop-place-test.true c.loop-place.invariant
    (subst (IsNodeFor c.loop-place.store c.apply.new.store (TakesArgument c.loop-place.sort (c.args.first + c.loop-place.place))) c.in_default.is c.in_ok-rest.ensures)

pub loop-place-preserved : goal.loop-place-preserved
loop-place-preserved c =
    taken_more c.args.store.now c.args.node c.args.first c.args.count c.requires.arguments c.loop-place.store c.apply.new.store c.loop-place.place c.loop-place.sort c.in-Some.rest c.loop-place-test.true c.loop-place.invariant
    (subst (IsNodeFor c.loop-place.store c.apply.new.store (TakesArgument c.loop-place.sort (c.args.first + c.loop-place.place))) c.in-Some.is c.in_ok-rest.ensures)

pub returns : goal.returns
returns c =
    taken_all c.args.store.now c.args.node c.args.first c.args.count c.requires.arguments c.loop-place.store c.loop-place.sort c.loop-place.place (omega arith) c.loop-place.invariant
