use Rattle.std.proofs.Common.{sym}
use Rattle.std.proofs.lemmas.List.Elements.{All-weaker}
use Rattle.hs_types.specs.Interned.{IsRow}
use Rattle.hs_types.proofs.Numbers.{Grows-refl, Grows-trans, row_within}
use Rattle.hs_minimal.proofs.FollowingLemmas.{none_so_far, one_so_far, all_so_far, shapes_stay, split_stays}
use Rattle.hs_minimal.proofs.following.following_by.Goals as goal

pub loop-head-init : goal.loop-head-init
loop-head-init c = record {
  grows = Grows-refl c.args.types.now;
  so_far = none_so_far c.args.problem.now c.args.point c.args.types.now c.args.rows.now c.args.heads.now c.new-found.result.items c.new-found.ensures.items;
}

pub add_by_head-requires-clause-rows : goal.add_by_head-requires-clause-rows
add_by_head-requires-clause-rows c = All-weaker (IsRow c.args.types.now) (IsRow c.loop-head.types) (row_within c.args.types.now c.loop-head.types c.loop-head.invariant.grows) c.args.rows.now c.requires.rows

pub add_by_head-requires-clause-shape : goal.add_by_head-requires-clause-shape
add_by_head-requires-clause-shape c = shapes_stay c.args.problem.now c.args.types.now c.loop-head.types c.loop-head.invariant.grows c.args.rows.now c.requires.rows c.requires.shape

pub add_by_head-requires-clause-head : goal.add_by_head-requires-clause-head
add_by_head-requires-clause-head c =
    split_stays c.args.problem.now c.args.point c.args.types.now c.loop-head.types c.loop-head.invariant.grows c.head-item.result (c.requires.heads c.head-item.result (c.loop-head.head-index, c.loop-head-test.true, sym c.head-item.is))

pub loop-head-preserved : goal.loop-head-preserved
loop-head-preserved c = record {
  grows = Grows-trans c.args.types.now c.loop-head.types c.add_by_head.new.types c.loop-head.invariant.grows c.add_by_head.ensures.grows;
  so_far = one_so_far c.args.problem.now c.args.point c.args.types.now c.args.rows.now c.args.heads.now c.requires.rows c.loop-head.types c.add_by_head.new.types c.loop-head.invariant.grows c.add_by_head.ensures.grows
      c.loop-head.head-index c.head-item.result c.loop-head-test.true c.head-item.is c.loop-head.found.items c.add_by_head.new.found.items c.in_ok-add_by_head.ensures.added c.loop-head.invariant.so_far;
}

pub returns-clause-found : goal.returns-clause-found
returns-clause-found c =
    all_so_far c.args.problem.now c.args.point c.args.types.now c.args.rows.now c.args.heads.now c.loop-head.types c.loop-head.head-index c.loop-head-test.false c.loop-head.found.items c.loop-head.invariant.so_far

pub returns-clause-grows : goal.returns-clause-grows
returns-clause-grows c = c.loop-head.invariant.grows
