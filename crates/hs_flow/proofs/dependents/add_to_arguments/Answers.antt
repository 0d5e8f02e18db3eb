use Rattle.std.proofs.Common.{◌≡◌, ◌+◌, get_or, take, Contains}
use Rattle.hs_flow.proofs.DependentLemmas.{adds_then, argument_more}
use Rattle.hs_flow.proofs.dependents.add_to_arguments.Goals as goal

pub loop-arg-preserved : goal.loop-arg-preserved
loop-arg-preserved c =
    let i = c.loop-arg.arg-index in let args = c.args.args.now in
    adds_then c.args.point (Contains (take i args)) (λ p. p ≡ get_or args i 0) (Contains (take (i + 1) args)) c.args.lists.now c.loop-arg.lists c.add_once.new.lists
    (argument_more args i c.loop-arg-test.true) c.loop-arg.invariant c.in_ok-add_once.ensures
