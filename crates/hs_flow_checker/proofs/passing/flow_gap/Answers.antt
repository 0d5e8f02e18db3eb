use Rattle.std.proofs.Common.{◌≡◌, subst, length, get_or, arith}
use Rattle.std.proofs.lemmas.Option.{slice_get-get_or}
use Rattle.hs_flow_checker.specs.PassedOn.{base_of}
use Rattle.hs_flow_checker.proofs.GapLemmas.{HoldsArguments, argument_passes, next_argument, all_arguments}
use Rattle.hs_flow_checker.proofs.passing.flow_gap.Goals as goal

pub returns-in-Err : goal.returns-in-Err
returns-in-Err c =
    let args = c.args.args.now in
    let k = c.loop-number.number in
    let x = c.in-Err.ensures in
    let passes = argument_passes c.args.problem.now args (base_of x.0) k (get_or args k 0) _ (slice_get-get_or args k 0 c.loop-number-test.true) x.1.1.0 in
    (x.0, (x.1.0, (passes, x.1.1.1)))

pub loop-number-preserved : goal.loop-number-preserved
loop-number-preserved c =
    let args = c.args.args.now in
    let k = c.loop-number.number in
    next_argument c.args.problem.now c.args.bases.now args k (get_or args k 0) (slice_get-get_or args k 0 c.loop-number-test.true) c.loop-number.invariant c.in-Ok.ensures

pub returns : goal.returns
returns c =
    let args = c.args.args.now in
    let k = c.loop-number.number in
    let end : k ≡ length args = omega (arith, c.loop-number-test.false) in
    all_arguments c.args.problem.now c.args.bases.now args (subst (λ n. HoldsArguments c.args.problem.now c.args.bases.now args n) end c.loop-number.invariant)
