use Rattle.std.proofs.Common.{length, arith}
use Rattle.hs_types.specs.Interned.{type_of_id, set_of_id}
use Rattle.hs_types.proofs.ListLemmas.{made_more, made_all, made_long}
use Rattle.hs_types.proofs.OrderLemmas.{member_lower, member_within}
use Rattle.hs_types.proofs.nodes.Nodes.+tree.Goals as goal

pub trees_of_set-tree_of_type-requires : goal.trees_of_set-tree_of_type-requires
trees_of_set-tree_of_type-requires t c =
    let I = c.args.self.now in
    let lower = member_lower I.types (set_of_id I c.args.id) c.members-members.result.now c.loop-member.member-index c.member-item.result c.members-members.ensures.members c.loop-member-test.true c.member-item.is in (
      grind (arith, lower),
      member_within (length I.types) c.members-members.result.now c.loop-member.member-index c.member-item.result c.members-members.ensures.range c.loop-member-test.true c.member-item.is,
    )

pub trees_of_set-loop-member-preserved : goal.trees_of_set-loop-member-preserved
trees_of_set-loop-member-preserved t c = record {
  made = made_more (type_of_id c.args.self.now) c.members-members.result.now c.loop-member.types.items c.push_reserved.new.self.items c.loop-member.member-index c.member-item.result c.in_ok-tree_of_type.field-0
      c.loop-member.invariant.made c.in_ok-tree_of_type.ensures c.loop-member-test.true c.member-item.is c.push_reserved.ensures.items;
  room = omega (arith, c.push_reserved.ensures.capacity, c.loop-member.invariant.room);
}

pub trees_of_set-push_reserved-requires : goal.trees_of_set-push_reserved-requires
trees_of_set-push_reserved-requires t c =
    let long = made_long (type_of_id c.args.self.now) c.members-members.result.now c.loop-member.types.items c.loop-member.member-index c.loop-member.invariant.made in
    omega (arith, c.loop-member.types.ok, long, c.loop-member.invariant.room, c.loop-member-test.true)

pub trees_of_set-returns : goal.trees_of_set-returns
trees_of_set-returns t c =
    made_all (type_of_id c.args.self.now) c.members-members.result.now c.loop-member.types.items (set_of_id c.args.self.now c.args.id) c.loop-member.member-index c.loop-member.invariant.made (omega (arith, c.loop-member-test.false)) c.members-members.ensures.members
