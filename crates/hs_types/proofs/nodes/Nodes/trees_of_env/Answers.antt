use Rattle.std.proofs.Common.{length, arith}
use Rattle.hs_types.specs.Interned.{set_of_id, env_of_id}
use Rattle.hs_types.proofs.ListLemmas.{made_more, made_all, made_long}
use Rattle.hs_types.proofs.OrderLemmas.{member_within}
use Rattle.hs_types.proofs.nodes.Nodes.trees_of_env.Goals as goal

pub trees_of_set-requires : goal.trees_of_set-requires
trees_of_set-requires c = member_within (length c.args.self.now.sets) c.sets-sets.result.now c.loop-set.set-index c.set-item.result c.sets-sets.ensures.range c.loop-set-test.true c.set-item.is

pub loop-set-preserved : goal.loop-set-preserved
loop-set-preserved c = record {
  made = made_more (set_of_id c.args.self.now) c.sets-sets.result.now c.loop-set.trees.items c.push_reserved.new.self.items c.loop-set.set-index c.set-item.result c.in_ok-types.types.items
      c.loop-set.invariant.made c.in_ok-types.ensures c.loop-set-test.true c.set-item.is c.push_reserved.ensures.items;
  room = omega (arith, c.push_reserved.ensures.capacity, c.loop-set.invariant.room);
}

pub push_reserved-requires : goal.push_reserved-requires
push_reserved-requires c =
    let long = made_long (set_of_id c.args.self.now) c.sets-sets.result.now c.loop-set.trees.items c.loop-set.set-index c.loop-set.invariant.made in
    omega (arith, c.loop-set.trees.ok, long, c.loop-set.invariant.room, c.loop-set-test.true)

pub returns : goal.returns
returns c =
    made_all (set_of_id c.args.self.now) c.sets-sets.result.now c.loop-set.trees.items (env_of_id c.args.self.now c.args.id) c.loop-set.set-index c.loop-set.invariant.made (omega (arith, c.loop-set-test.false)) c.sets-sets.ensures.sets
