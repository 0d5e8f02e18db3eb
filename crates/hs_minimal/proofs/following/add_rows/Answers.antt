use Rattle.hs_minimal.proofs.FollowingLemmas.{rows_none, rows_next, rows_all}
use Rattle.hs_minimal.proofs.following.add_rows.Goals as goal

pub loop-env-init : goal.loop-env-init
loop-env-init c = rows_none c.args.point c.args.ty c.args.envs.now c.args.found.now.items

pub loop-env-preserved : goal.loop-env-preserved
loop-env-preserved c =
    rows_next c.args.point c.args.ty c.args.envs.now c.args.found.now.items c.loop-env.env-index c.env-item.result c.loop-env-test.true c.env-item.is c.loop-env.found.items c.push.new.self.items c.loop-env.invariant c.in_ok-push.ensures.items

pub returns : goal.returns
returns c = rows_all c.args.point c.args.ty c.args.envs.now c.args.found.now.items c.loop-env.env-index c.loop-env-test.false c.loop-env.found.items c.loop-env.invariant
