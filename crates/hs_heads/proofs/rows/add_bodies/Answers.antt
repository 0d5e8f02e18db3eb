use Rattle.hs_types.proofs.Numbers.{row_within}
use Rattle.hs_heads.specs.Sources.{BodySays}
use Rattle.hs_heads.proofs.Gaining.{some_none, some_next, some_all, gains_same}
use Rattle.hs_heads.proofs.RowLemmas.{body_stays, row_at}
use Rattle.hs_heads.proofs.rows.add_bodies.Goals as goal

pub loop-row-init : goal.loop-row-init
loop-row-init c = some_none (BodySays c.args.types.now c.args.reads.now c.args.point) c.args.rows.now c.args.types.now c.args.found.now.keys

pub add_body-requires : goal.add_body-requires
add_body-requires c =
    row_within c.args.types.now c.loop-row.types c.loop-row.invariant.grows c.row-item.result (row_at c.args.types.now c.args.rows.now c.loop-row.row-index c.row-item.result c.loop-row-test.true c.row-item.is c.requires)

pub loop-row-preserved : goal.loop-row-preserved
loop-row-preserved c =
    let I = c.args.types.now in
    let J = c.loop-row.types in
    let K = c.add_body.new.types in
    let R = c.args.reads.now in
    let row = c.row-item.result in
    let known = row_at I c.args.rows.now c.loop-row.row-index row c.loop-row-test.true c.row-item.is c.requires in
    some_next (BodySays I R c.args.point) c.args.rows.now I J K c.loop-row.row-index row c.args.found.now.keys c.loop-row.found.keys c.add_body.new.found.keys c.loop-row-test.true c.row-item.is c.loop-row.invariant
    (gains_same J K (BodySays J R c.args.point row) (BodySays I R c.args.point row) c.loop-row.found.keys c.add_body.new.found.keys (body_stays I J R c.args.point row c.loop-row.invariant.grows known) c.in_ok-add_body.ensures)

pub returns : goal.returns
returns c =
    some_all (BodySays c.args.types.now c.args.reads.now c.args.point) c.args.rows.now c.args.types.now c.loop-row.types c.loop-row.row-index c.args.found.now.keys c.loop-row.found.keys c.loop-row-test.false c.loop-row.invariant
