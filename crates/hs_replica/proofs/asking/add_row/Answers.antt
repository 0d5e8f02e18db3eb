use Rattle.std.proofs.lemmas.Result.{on_ok_weaker}
use Rattle.hs_types.specs.Interned.{type_of_id, set_of_id}
use Rattle.hs_replica.specs.Index.{list_at, AsksBy}
use Rattle.hs_replica.proofs.SetLemmas.{gains_nothing}
use Rattle.hs_replica.proofs.AskLemmas.{state_gains, state_all, arrow_all}
use Rattle.hs_replica.proofs.asking.add_row.Goals as goal

pub returns-in-State-clause-gains : goal.returns-in-State-clause-gains
returns-in-State-clause-gains c =
    state_gains c.args.interner.now c.args.row c.args.place (list_at c.add_asking.new.lists) c.in-State.field-0 c.in-State.ensures (list_at c.args.lists.now) c.add_asking.ensures.gains

pub returns-in-State-clause-all : goal.returns-in-State-clause-all
returns-in-State-clause-all c = on_ok_weaker c.add_asking.result (state_all c.args.interner.now c.args.row c.args.place (list_at c.add_asking.new.lists)) c.add_asking.ensures.all

pub returns-clause-gains : goal.returns-clause-gains
returns-clause-gains c = gains_nothing c.args.interner.now (AsksBy c.args.interner.now c.args.row) c.args.place (list_at c.args.lists.now)

pub returns-clause-all : goal.returns-clause-all
returns-clause-all c =
    let ids = c.args.interner.now in
    arrow_all ids c.args.row c.args.place (list_at c.args.lists.now) (set_of_id ids c.in_default.field-0) (type_of_id ids c.in_default.field-1) c.in_default.ensures.2
