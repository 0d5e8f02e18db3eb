use Rattle.std.proofs.Common.{sym, ap, ◌<◌, length, arith}
use Rattle.std.proofs.lemmas.Bool.{eqb-true}
use Rattle.hs_table.proofs.OrderLemmas.{index_of_equal}
use Rattle.hs_types.specs.Interned.{type_of_id, set_of_id}
use Rattle.hs_types.proofs.OrderLemmas.{cmp_itself, cmp_states, cmp_by_sets, member_lower, member_within, sets_at_end}
use Rattle.hs_types.proofs.nodes.Nodes.+compare.Goals as goal

pub compare-returns-then-eq : goal.compare-returns-then-eq
compare-returns-then-eq t c =
    cmp_itself (type_of_id c.args.self.now c.args.a) (type_of_id c.args.self.now c.args.b) (ap (type_of_id c.args.self.now) (eqb-true c.args.a c.args.b (sym c.if-eq.ensures)))

pub compare-returns-in-State-view : goal.compare-returns-in-State-view
compare-returns-in-State-view t c = let I = c.args.self.now in
    cmp_states (type_of_id I c.args.a) (type_of_id I c.args.b) _ _ c.cmp.result c.in-State.ensures c.in-State-view.ensures c.cmp.ensures

pub compare-returns-else-ne : goal.compare-returns-else-ne
compare-returns-else-ne t c =
    let I = c.args.self.now in
    cmp_by_sets (type_of_id I c.args.a) (type_of_id I c.args.b) (set_of_id I c.in-Arrow.set) (set_of_id I c.in-Arrow-view-2.other_set)
    (type_of_id I c.in-Arrow.rest) (type_of_id I c.in-Arrow-view-2.other_rest) c.compare-by_result.result c.compare_sets.result
    c.in-Arrow.ensures.2 c.in-Arrow-view-2.ensures.2 c.compare-by_result.ensures (index_of_equal c.compare-by_result.result c.if-ne.ensures) c.compare_sets.ensures

pub compare_sets-compare-by_member-requires : goal.compare_sets-compare-by_member-requires
compare_sets-compare-by_member-requires t c =
    let I = c.args.self.now in
    let ms = c.members-members.result.now in
    let k = c.loop-place.place in
    let os = c.members-others.result.now in
    let within : k < length os = omega (arith, c.loop-place.invariant.within, c.if-place-others.false) in
    let lower = member_lower I.types (set_of_id I c.args.set) ms k c.index-members-place.result c.members-members.ensures.members c.loop-place-test.true c.index-members-place.is in (
      grind (arith, lower),
      (
        member_within (length I.types) ms k c.index-members-place.result c.members-members.ensures.range c.loop-place-test.true c.index-members-place.is,
        member_within (length I.types) os k c.index-others-place.result c.members-others.ensures.range within c.index-others-place.is,
      ),
    )

pub compare_sets-returns : goal.compare_sets-returns
compare_sets-returns t c =
    let I = c.args.self.now in
    sets_at_end I.types (set_of_id I c.args.set) (set_of_id I c.args.other) c.members-members.result.now c.members-others.result.now c.loop-place.place c.cmp.result
    c.members-members.ensures.members c.members-others.ensures.members (omega (arith, c.loop-place-test.false)) c.loop-place.auto.place-end c.loop-place.invariant.within c.loop-place.invariant.left c.cmp.ensures
