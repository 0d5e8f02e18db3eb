use Rattle.std.proofs.lemmas.Result.{on_ok_weaker}
use Rattle.hs_replica.specs.Index.{list_at, log_of}
use Rattle.hs_replica.proofs.RowLemmas.{row_known, entry_at, typed_gains, all_gains, all_met}
use Rattle.hs_replica.proofs.typing.add_typed.Goals as goal

pub returns-in_err-first-clause-gains : goal.returns-in_err-first-clause-gains
returns-in_err-first-clause-gains c =
    let ids = c.args.interner.now in
    let rows = c.args.rows.now in
    let row = c.index-rows-place.result in
    typed_gains ids c.know_numbers.ensures (log_of ids rows) c.args.place row (entry_at ids rows c.args.place row c.requires.place c.index-rows-place.is)
    (row_known ids rows c.args.place row c.requires.place c.index-rows-place.is c.requires.rows).1 (list_at c.args.lists.now) c.requires.next (list_at c.add_once.new.lists) c.in_err-first.ensures.adds

pub returns-clause-gains : goal.returns-clause-gains
returns-clause-gains c =
    let ids = c.args.interner.now in
    let rows = c.args.rows.now in
    let row = c.index-rows-place.result in
    all_gains ids c.know_numbers.ensures (log_of ids rows) c.args.place row (entry_at ids rows c.args.place row c.requires.place c.index-rows-place.is)
    (row_known ids rows c.args.place row c.requires.place c.index-rows-place.is c.requires.rows).1 (list_at c.args.lists.now) c.requires.next (list_at c.add_once.new.lists) c.in_ok-first.ensures.adds
    c.in_ok-first.ensures.there (list_at c.add_first.new.lists) c.add_first.ensures.gains

pub returns-clause-all : goal.returns-clause-all
returns-clause-all c =
    let ids = c.args.interner.now in
    let rows = c.args.rows.now in
    let row = c.index-rows-place.result in
    on_ok_weaker c.add_first.result
    (all_met ids c.know_numbers.ensures (log_of ids rows) c.args.place row (entry_at ids rows c.args.place row c.requires.place c.index-rows-place.is)
    (row_known ids rows c.args.place row c.requires.place c.index-rows-place.is c.requires.rows).1 (list_at c.args.lists.now) c.requires.next (list_at c.add_once.new.lists) c.in_ok-first.ensures.adds
    c.in_ok-first.ensures.there (list_at c.add_first.new.lists) c.add_first.ensures.gains)
    c.add_first.ensures.all
