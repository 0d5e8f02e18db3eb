use Rattle.hs_types.specs.Interned.{entry_of}
use Rattle.hs_replica.specs.Index.{list_at, log_of}
use Rattle.hs_replica.proofs.RowLemmas.{entry_at, place_kept, place_more}
use Rattle.hs_replica.proofs.indexing.add_place.Goals as goal

pub returns-in_err-add_once-clause-index : goal.returns-in_err-add_once-clause-index
returns-in_err-add_once-clause-index c ids by_type asked was =
    let rows = c.args.rows.now in
    let row = c.index-rows-place.result in
    place_kept ids (log_of ids rows) by_type asked c.args.place (entry_of ids row) (entry_at ids rows c.args.place row c.requires.place c.index-rows-place.is) (list_at c.args.lists.now) (list_at c.add_once.new.lists) was
    c.in_err-add_once.ensures.adds

pub returns-clause-index : goal.returns-clause-index
returns-clause-index c ids by_type asked was =
    let rows = c.args.rows.now in
    let row = c.index-rows-place.result in
    place_kept ids (log_of ids rows) by_type asked c.args.place (entry_of ids row) (entry_at ids rows c.args.place row c.requires.place c.index-rows-place.is) (list_at c.args.lists.now) (list_at c.add_once.new.lists) was
    c.in_ok-add_once.ensures.adds

pub returns-clause-ok : goal.returns-clause-ok
returns-clause-ok c ids by_type asked was =
    let rows = c.args.rows.now in
    let row = c.index-rows-place.result in
    place_more ids (log_of ids rows) by_type asked c.args.place (entry_of ids row) (entry_at ids rows c.args.place row c.requires.place c.index-rows-place.is) (list_at c.args.lists.now) (list_at c.add_once.new.lists) was
    c.in_ok-add_once.ensures.adds c.in_ok-add_once.ensures.there
