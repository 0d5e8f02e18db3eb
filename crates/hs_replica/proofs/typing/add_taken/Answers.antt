use Rattle.std.proofs.Common.{refl}
use Rattle.hs_types.specs.Interned.{set_of_id}
use Rattle.hs_replica.specs.declared.key.Key.TheVariants.{Taking}
use Rattle.hs_replica.specs.Index.{list_at, TakesAt}
use Rattle.hs_replica.proofs.SetLemmas.{set_none, set_stopped, set_more, set_all, member_in, taken_all}
use Rattle.hs_replica.proofs.typing.add_taken.Goals as goal

pub loop-ty-init : goal.loop-ty-init
loop-ty-init c =
    set_none c.args.interner.now (Taking c.args.point c.args.arg) (TakesAt c.args.point c.args.arg (set_of_id c.args.interner.now c.args.set)) c.members-ty-items.result.now c.args.place (list_at c.args.lists.now)

pub returns-in_err-add_once-clause-gains : goal.returns-in_err-add_once-clause-gains
returns-in_err-add_once-clause-gains c =
    let ids = c.args.interner.now in
    set_stopped ids (Taking c.args.point c.args.arg) (λ t h. h) (TakesAt c.args.point c.args.arg (set_of_id ids c.args.set)) c.members-ty-items.result.now c.members-ty-items.ensures.range c.args.place
    (λ t h. (refl, (refl, member_in ids c.members-ty-items.result.now (set_of_id ids c.args.set) c.members-ty-items.ensures.members t h)))
    c.loop-ty.ty-index c.ty-item.result c.loop-ty-test.true c.ty-item.is (list_at c.args.lists.now) (list_at c.loop-ty.lists) (list_at c.add_once.new.lists) c.loop-ty.invariant c.in_err-add_once.ensures.adds

pub loop-ty-preserved : goal.loop-ty-preserved
loop-ty-preserved c =
    let ids = c.args.interner.now in
    set_more ids (Taking c.args.point c.args.arg) (λ t h. h) (TakesAt c.args.point c.args.arg (set_of_id ids c.args.set)) c.members-ty-items.result.now c.members-ty-items.ensures.range c.args.place
    (λ t h. (refl, (refl, member_in ids c.members-ty-items.result.now (set_of_id ids c.args.set) c.members-ty-items.ensures.members t h)))
    c.loop-ty.ty-index c.ty-item.result c.loop-ty-test.true c.ty-item.is (list_at c.args.lists.now) (list_at c.loop-ty.lists) (list_at c.add_once.new.lists) c.loop-ty.invariant c.in_ok-add_once.ensures.adds c.in_ok-add_once.ensures.there

pub returns-clause-gains : goal.returns-clause-gains
returns-clause-gains c = c.loop-ty.invariant.gains

pub returns-clause-all : goal.returns-clause-all
returns-clause-all c =
    let ids = c.args.interner.now in
    taken_all ids c.members-ty-items.result.now (set_of_id ids c.args.set) c.members-ty-items.ensures.members c.args.point c.args.arg c.args.place (list_at c.loop-ty.lists)
    (set_all ids (Taking c.args.point c.args.arg) (λ t h. h) (TakesAt c.args.point c.args.arg (set_of_id ids c.args.set)) c.members-ty-items.result.now c.members-ty-items.ensures.range c.args.place
    c.loop-ty.ty-index (list_at c.args.lists.now) (list_at c.loop-ty.lists) c.loop-ty-test.false c.loop-ty.invariant)
