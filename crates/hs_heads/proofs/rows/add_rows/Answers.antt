use Rattle.hs_heads.specs.Sources.{FlowSays}
use Rattle.hs_heads.proofs.Gaining.{some_none, some_next, some_all}
use Rattle.hs_heads.proofs.RowLemmas.{row_at}
use Rattle.hs_heads.proofs.rows.add_rows.Goals as goal

pub loop-row-init : goal.loop-row-init
loop-row-init c = some_none (FlowSays c.args.types.now c.args.reads.now c.args.point) c.args.rows.now c.args.types.now c.args.found.now.keys

pub add_row-requires : goal.add_row-requires
add_row-requires c = row_at c.args.types.now c.args.rows.now c.loop-row.row-index c.row-item.result c.loop-row-test.true c.row-item.is c.requires

pub loop-row-preserved : goal.loop-row-preserved
loop-row-preserved c =
    let I = c.args.types.now in
    some_next (FlowSays I c.args.reads.now c.args.point) c.args.rows.now I I I c.loop-row.row-index c.row-item.result c.args.found.now.keys c.loop-row.found.keys c.add_row.new.found.keys c.loop-row-test.true c.row-item.is c.loop-row.invariant
    c.in_ok-add_row.ensures

pub returns : goal.returns
returns c =
    let I = c.args.types.now in
    some_all (FlowSays I c.args.reads.now c.args.point) c.args.rows.now I I c.loop-row.row-index c.args.found.now.keys c.loop-row.found.keys c.loop-row-test.false c.loop-row.invariant
