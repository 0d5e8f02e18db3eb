use Rattle.std.proofs.Common.{sym, ◌∙◌, true≢false}
use Rattle.std.proofs.lemmas.Result.{on_ok_weaker}
use Rattle.hs_replica.specs.Index.{list_at, TakesFirst}
use Rattle.hs_replica.proofs.SetLemmas.{gains_nothing}
use Rattle.hs_replica.proofs.RowLemmas.{first_gains, first_all, later_all}
use Rattle.hs_replica.proofs.typing.add_first.Goals as goal

pub returns-then-first-clause-gains : goal.returns-then-first-clause-gains
returns-then-first-clause-gains c =
    first_gains c.args.interner.now c.args.row (list_at c.args.lists.now) c.args.place (list_at c.add_taking.new.lists) (c.requires.first.0 c.if-first.true)
    (list_at c.args.lists.now) c.add_taking.ensures.gains

pub returns-then-first-clause-all : goal.returns-then-first-clause-all
returns-then-first-clause-all c =
    on_ok_weaker c.add_taking.result (first_all c.args.interner.now c.args.row (list_at c.args.lists.now) c.args.place (list_at c.add_taking.new.lists)) c.add_taking.ensures.all

pub returns-clause-gains : goal.returns-clause-gains
returns-clause-gains c = gains_nothing c.args.interner.now (TakesFirst c.args.interner.now c.args.row (list_at c.args.lists.now) c.args.place) c.args.place (list_at c.args.lists.now)

pub returns-clause-all : goal.returns-clause-all
returns-clause-all c =
    later_all c.args.interner.now c.args.row (list_at c.args.lists.now) c.args.place (list_at c.args.lists.now)
    (λ h. true≢false (sym (c.requires.first.1 h) ∙ c.if-first.false))
