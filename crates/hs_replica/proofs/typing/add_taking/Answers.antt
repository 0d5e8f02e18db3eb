use Rattle.std.proofs.Common.{sym, subst, ℕ}
use Rattle.hs_types.specs.Interned.{type_of_id}
use Rattle.hs_replica.specs.Index.{list_at}
use Rattle.hs_replica.proofs.TypeLemmas.{TypeSoFar, type_stopped, type_more, type_all}
use Rattle.hs_replica.proofs.typing.add_taking.Goals as goal

pub returns-in_err-add_taken-clause-gains : goal.returns-in_err-add_taken-clause-gains
returns-in_err-add_taken-clause-gains c =
    let ids = c.args.interner.now in
    type_stopped ids c.args.point (type_of_id ids c.args.ty) c.loop-set.rest c.loop-set.arg c.args.place (list_at c.args.lists.now) (list_at c.loop-set.lists) c.loop-set.invariant
    c.in-Arrow.set c.in-Arrow.next c.in-Arrow.ensures (list_at c.add_taken.new.lists) c.in_err-add_taken.ensures.gains

pub returns-in_default-checked_add-clause-gains : goal.returns-in_default-checked_add-clause-gains
returns-in_default-checked_add-clause-gains c =
    let ids = c.args.interner.now in
    type_stopped ids c.args.point (type_of_id ids c.args.ty) c.loop-set.rest c.loop-set.arg c.args.place (list_at c.args.lists.now) (list_at c.loop-set.lists) c.loop-set.invariant
    c.in-Arrow.set c.in-Arrow.next c.in-Arrow.ensures (list_at c.add_taken.new.lists) c.in_ok-add_taken.ensures.gains

pub loop-set-preserved : goal.loop-set-preserved
loop-set-preserved c =
    let ids = c.args.interner.now in
    subst (λ (n : ℕ). TypeSoFar ids c.args.point (type_of_id ids c.args.ty) c.in-Arrow.next n c.args.place (list_at c.args.lists.now) (list_at c.add_taken.new.lists)) (sym c.in-Some.ensures.1)
    (type_more ids c.args.point (type_of_id ids c.args.ty) c.loop-set.rest c.loop-set.arg c.args.place (list_at c.args.lists.now) (list_at c.loop-set.lists) c.loop-set.invariant
    c.in-Arrow.set c.in-Arrow.next c.in-Arrow.ensures (list_at c.add_taken.new.lists) c.in_ok-add_taken.ensures.gains c.in_ok-add_taken.ensures.all)

pub returns-clause-all : goal.returns-clause-all
returns-clause-all c =
    let ids = c.args.interner.now in
    type_all ids c.args.point (type_of_id ids c.args.ty) c.loop-set.rest c.loop-set.arg c.args.place (list_at c.args.lists.now) (list_at c.loop-set.lists) c.loop-set.invariant c.in_default.field-0 c.in_default.ensures
