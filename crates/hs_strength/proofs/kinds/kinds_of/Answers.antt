use Rattle.std.proofs.Common.{arith}
use Rattle.hs_types.specs.Interned.{set_of_id, env_of_id}
use Rattle.hs_strength.proofs.Reading.{set_read_at, long_as}
use Rattle.hs_strength.proofs.KindBits.{none_below, one_more_below, all_below}
use Rattle.hs_strength.proofs.kinds.kinds_of.Goals as goal

pub loop-parameter-init : goal.loop-parameter-init
loop-parameter-init c = none_below (env_of_id c.args.types.now c.args.env)

pub loop-parameter-preserved : goal.loop-parameter-preserved
loop-parameter-preserved c =
    let I = c.args.types.now in
    let E = env_of_id I c.args.env in
    let k = c.loop-parameter.parameter in
    let set = c.index-sets-parameter.result in
    one_more_below E k (set_of_id I set) c.loop-parameter.kinds c.with_kinds-kinds.result (set_read_at (set_of_id I) c.sets-sets.result.now E k set c.sets-sets.ensures.sets c.loop-parameter-test.true c.index-sets-parameter.is) c.loop-parameter.invariant c.with_kinds-kinds.ensures

pub returns : goal.returns
returns c =
    let I = c.args.types.now in
    let E = env_of_id I c.args.env in
    let long = long_as (set_of_id I) c.sets-sets.result.now E c.sets-sets.ensures.sets in
    all_below E c.loop-parameter.parameter c.loop-parameter.kinds (omega (arith, long, c.loop-parameter-test.false)) c.loop-parameter.invariant
